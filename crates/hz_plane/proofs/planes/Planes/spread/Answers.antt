use Rattle.std.proofs.Common.{◌≡◌, ℕ, ◌<◌, ◌∙◌, List, Some, length, sym, ap, subst, arith}
use Rattle.std.proofs.lemmas.Option.{slice_get_within}
use Rattle.hz_plane.specs.declared.pair.Pair.{Pair}
use Rattle.hz_plane.specs.declared.stage.Stage.{Stage}
use Rattle.hz_plane.specs.declared.stage.Stage.TheVariants.{Loading, Completed, Spread}
use Rattle.hz_plane.specs.Steps.{AreAllPlanes, HasLane}
use Rattle.hz_plane.specs.Loads.{lane_input}
use Rattle.hz_plane.specs.View.{Seen, LaneHolds}
use Rattle.hz_plane.proofs.LoadLemmas.{written-back}
use Rattle.hz_plane.proofs.Held.{holds-spread}
use Rattle.hz_plane.proofs.planes.Planes.spread.Goals as goal

pub invariant_of-self : goal.invariant_of-self
invariant_of-self c =
    let fields = c.self.inside in
    let held = c.self.invariant in
    let stage : fields.stage ≡ Completed = ap (λ (s : Seen). s.stage) c.self.view_is ∙ c.requires.stage in
    let values_back = written-back c.spread.new.values c.spread.auto.values c.as_mut_slice-2.ensures.value c.as_mut_slice-2.ensures.len in
    let marks_back = written-back c.spread.new.marks c.spread.auto.marks c.as_mut_slice.ensures.value c.as_mut_slice.ensures.len in
    let netlist = fields.net.now in
    record {
      inputs = held.inputs;
      nodes = held.nodes;
      values_count = ap (length {A = Pair}) values_back.are ∙ (values_back.long ∙ held.values_count);
      marks = ap (length {A = ℕ}) marks_back.are ∙ (marks_back.long ∙ held.marks);
      faults_count = held.faults_count;
      values_planes = subst AreAllPlanes (sym values_back.are) c.spread.ensures.planes;
      schedule = held.schedule;
      lists = held.lists;
      lanes = λ lane loaded at.
          let inside : lane < 512 = omega (arith, slice_get_within fields.loads.lanes lane (Some loaded) at, c.inputs.ensures.long) in
          let is : lane_input c.inputs.result.now lane ≡ loaded.input = c.inputs.ensures.lanes lane loaded at in
          let was : LaneHolds Completed netlist loaded fields.values.items lane = subst (λ (s : Stage). LaneHolds s netlist loaded fields.values.items lane) stage (held.lanes lane loaded at) in
          subst (λ (values : List Pair). LaneHolds Spread netlist loaded values lane) (sym values_back.are)
          (holds-spread netlist held.schedule.circuit loaded fields.values.items c.spread.new.values lane c.inputs.result.now is was
          (λ input first nodes rounds has are bits rounded. c.spread.ensures.lanes lane input first nodes rounds inside
          (subst (λ (planes : List Pair). HasLane planes lane nodes) (sym c.as_mut_slice-2.ensures.value) has) are bits rounded));
      faults = λ lane loaded at begun. held.faults lane loaded at (λ e. (let wrong : Completed ≡ Loading = sym stage ∙ e in cc));
      unsettled = λ settled. cc;
    }

pub returns : goal.returns
returns c = ap (λ (s : Seen). record s { stage = Spread }) c.self.view_is
