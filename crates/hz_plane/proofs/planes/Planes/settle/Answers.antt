use Rattle.std.proofs.Common.{◌≡◌, ◌<◌, ◌+◌, ◌-◌, ◌^◌, ◌∙◌, min, ℕ, List, Some, length, sym, ap, subst, arith}
use Rattle.std.proofs.lemmas.Option.{slice_get_within}
use Rattle.hz_plane.specs.declared.pair.Pair.{Pair}
use Rattle.hz_plane.specs.declared.stage.Stage.{Stage}
use Rattle.hz_plane.specs.declared.stage.Stage.TheVariants.{Loading, Spread, Settled}
use Rattle.hz_plane.specs.Steps.{AreAllPlanes, HasLane}
use Rattle.hz_plane.specs.Loads.{lane_input}
use Rattle.hz_plane.specs.Faults.{AreUnknownLanes}
use Rattle.hz_plane.specs.View.{Seen, LaneHolds}
use Rattle.hz_plane.specs.Inside.{seen_of}
use Rattle.hz_plane.proofs.LoadLemmas.{written-back}
use Rattle.hz_plane.proofs.Held.{holds-settled}
use Rattle.hz_plane.proofs.planes.Planes.settle.Goals as goal

pub invariant_of-self : goal.invariant_of-self
invariant_of-self c =
    let fields = c.self.inside in
    let held = c.self.invariant in
    let stage : fields.stage ≡ Spread = ap (λ (s : Seen). s.stage) c.self.view_is ∙ c.requires.stage in
    let values_back = written-back c.settle-are_evaluated.new.values c.settle-are_evaluated.auto.values c.as_mut_slice-2.ensures.value c.as_mut_slice-2.ensures.len in
    let marks_back = written-back c.settle-are_evaluated.new.marks c.settle-are_evaluated.auto.marks c.as_mut_slice.ensures.value c.as_mut_slice.ensures.len in
    let netlist = fields.net.now in
    record {
      inputs = held.inputs;
      nodes = held.nodes;
      values_count = ap (length {A = Pair}) values_back.are ∙ (values_back.long ∙ held.values_count);
      marks = ap (length {A = ℕ}) marks_back.are ∙ (marks_back.long ∙ held.marks);
      faults_count = held.faults_count;
      values_planes = subst AreAllPlanes (sym values_back.are) c.settle-are_evaluated.ensures.planes;
      schedule = held.schedule;
      lists = held.lists;
      lanes = λ lane loaded at.
          let inside : lane < 512 = omega (arith, slice_get_within fields.loads.lanes lane (Some loaded) at, c.inputs.ensures.long) in
          let is : lane_input c.inputs.result.now lane ≡ loaded.input = c.inputs.ensures.lanes lane loaded at in
          let was : LaneHolds Spread netlist loaded fields.values.items lane = subst (λ (s : Stage). LaneHolds s netlist loaded fields.values.items lane) stage (held.lanes lane loaded at) in
          subst (λ (values : List Pair). LaneHolds Settled netlist loaded values lane) (sym values_back.are)
          (holds-settled netlist held.schedule.circuit loaded fields.values.items c.settle-are_evaluated.new.values lane c.inputs.result.now is was
          (λ input first nodes rest has are bits falls settled. c.settle-are_evaluated.ensures.lanes lane input first nodes rest inside
          (subst (λ (planes : List Pair). HasLane planes lane nodes) (sym c.as_mut_slice-2.ensures.value) has) are bits falls settled));
      faults = λ lane loaded at begun. held.faults lane loaded at (λ e. (let wrong : Spread ≡ Loading = sym stage ∙ e in cc));
      unsettled = λ settled. subst (λ (planes : List Pair). AreUnknownLanes planes (length planes) c.unsettled_lanes-self-inside.result) c.as_slice.ensures.value c.unsettled_lanes-self-inside.ensures;
    }

pub returns : goal.returns
returns c =
    let count : c.saturating_add-self-inside.result ≡ min (c.self.inside.settles + 1) (2 ^ 64 - 1) = c.saturating_add-self-inside.ensures in
    let later : ℕ → Seen → Seen = λ (n : ℕ) (s : Seen). record s { stage = Settled; settles = n } in
    ap (λ (n : ℕ). later n (seen_of c.self.inside)) count
    ∙ ap (λ (s : Seen). later (min (s.settles + 1) (2 ^ 64 - 1)) s) c.self.view_is
