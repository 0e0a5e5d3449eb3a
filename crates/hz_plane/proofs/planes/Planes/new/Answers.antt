use Rattle.std.proofs.Common.{◌∙◌, ◌+◌, ◌/◌, ℕ, length, slice_get, sym, ap, refl, rules}
use Rattle.hz_core.specs.Netlist.{Netlist}
use Rattle.hz_plane.specs.declared.stage.Stage.TheVariants.{Loading}
use Rattle.hz_plane.specs.Loads.{LaneLoads}
use Rattle.hz_plane.specs.View.{Seen}
use Rattle.hz_plane.proofs.Fields.{loaded-none}
use Rattle.hz_plane.proofs.planes.Planes.new.Goals as goal

pub invariant_of-result : goal.invariant_of-result
invariant_of-result c =
    let same = c.circuit-circuit.ensures.same in
    record {
      inputs = ap (λ (l : LaneLoads). l.inputs) c.in_ok-loads.ensures ∙ (c.inputs.ensures.inputs ∙ ap (λ (n : Netlist). n.inputs) same);
      nodes = ap (λ (l : LaneLoads). l.nodes) c.in_ok-loads.ensures ∙ (c.nodes.ensures.nodes ∙ ap (λ (n : Netlist). length n.names) same);
      values_count = c.in_ok-values.ensures.count ∙ (c.nodes-2.ensures.nodes ∙ ap (λ (n : Netlist). length n.names) same);
      marks = sym c.in_ok-marks.marks.ok.0 ∙ (c.in_ok-marks.ensures.len ∙ ap (λ (n : ℕ). n / 64 + 1) (c.len.ensures ∙ c.in_ok-schedule.schedule.order.ok.0));
      faults_count = search (rules, c.in_ok-faults.ensures.len);
      values_planes = c.in_ok-values.ensures.planes;
      schedule = c.in_ok-schedule.ensures;
      lists = λ lane loaded at. loaded-none lane loaded _ (ap (λ (l : LaneLoads). slice_get l.lanes lane) (sym c.in_ok-loads.ensures) ∙ at);
      lanes = λ lane loaded at. tt;
      faults = λ lane loaded at begun. absurd (begun refl);
      unsettled = λ settled. cc;
    }

pub returns : goal.returns
returns c =
    let seen : LaneLoads → Seen = λ (loads : LaneLoads). record { netlist = c.args.net.now; stage = Loading; settles = 0; lanes = loads.lanes } in
    ap seen c.in_ok-loads.ensures
