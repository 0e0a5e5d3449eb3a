use Rattle.std.proofs.Common.{◌≡◌, ℕ, ◌<◌, ◌∙◌, List, Bool, Option, Some, None, length, slice_get, sym, ap, subst, arith}
use Rattle.std.proofs.lemmas.Option.{slice_get_within}
use Rattle.hz_plane.specs.declared.pair.Pair.{Pair}
use Rattle.hz_plane.specs.declared.stage.Stage.TheVariants.{Completed}
use Rattle.hz_plane.specs.declared.stage.LaneFault.{LaneFault}
use Rattle.hz_plane.specs.Steps.{AreAllPlanes}
use Rattle.hz_plane.specs.Lanes.{ListsAllInputs}
use Rattle.hz_plane.specs.Loads.{Loaded, lane_listed}
use Rattle.hz_plane.specs.Passes.{HoldsForced}
use Rattle.hz_plane.specs.Faults.{fault_at}
use Rattle.hz_plane.specs.View.{Seen, LaneHolds, IsLaneFault}
use Rattle.hz_plane.proofs.LoadLemmas.{written-back}
use Rattle.hz_plane.specs.Faults.{IsNoted}
use Rattle.hz_plane.proofs.FaultResults.{lane-fault}
use Rattle.hz_plane.proofs.planes.Planes.complete.Goals as goal

pub invariant_of-self : goal.invariant_of-self
invariant_of-self c =
    let fields = c.self.inside in
    let held = c.self.invariant in
    let values_back = written-back c.fill-are_evaluated.new.values c.fill-are_evaluated.auto.values c.as_mut_slice-2.ensures.value c.as_mut_slice-2.ensures.len in
    let marks_back = written-back c.fill-are_evaluated.new.marks c.fill-are_evaluated.auto.marks c.as_mut_slice.ensures.value c.as_mut_slice.ensures.len in
    let faults_back = written-back c.note_faults.new.faults c.note_faults.auto.faults c.as_mut_slice-3.ensures.value c.as_mut_slice-3.ensures.len in
    let values = c.fill-are_evaluated.new.values in
    let read : c.as_slice.result.now ≡ values = c.as_slice.ensures.value ∙ values_back.are in
    let netlist = fields.net.now in
    let inside : (lane : ℕ) (loaded : Loaded) → slice_get fields.loads.lanes lane ≡ Some (Some loaded) → lane < 512 = λ lane loaded at. omega (arith, slice_get_within fields.loads.lanes lane (Some loaded) at, c.listings.ensures.long) in
    let filled : (lane : ℕ) (loaded : Loaded) → slice_get fields.loads.lanes lane ≡ Some (Some loaded) → HoldsForced netlist values lane loaded.listed = λ lane loaded at.
    let is : lane_listed c.listings.result.now lane ≡ loaded.listed = c.listings.ensures.lanes lane loaded at in
    subst (HoldsForced netlist values lane) is
    (c.fill-are_evaluated.ensures.lanes lane (inside lane loaded at) (subst (ListsAllInputs netlist) (sym is) (held.lists lane loaded at))
    (λ none gate is_gate. subst (λ (l : List (Option Bool)). slice_get l gate ≡ Some None) (sym is)
    (c.lists_no_gate-no_gates.ensures none lane loaded at gate (omega (arith, is_gate.0, held.inputs)) (omega (arith, is_gate.1, held.nodes))))) in
    record {
      inputs = held.inputs;
      nodes = held.nodes;
      values_count = ap (length {A = Pair}) values_back.are ∙ (values_back.long ∙ held.values_count);
      marks = ap (length {A = ℕ}) marks_back.are ∙ (marks_back.long ∙ held.marks);
      faults_count = ap (length {A = Option LaneFault}) faults_back.are ∙ (faults_back.long ∙ held.faults_count);
      values_planes = subst AreAllPlanes (sym values_back.are) c.fill-are_evaluated.ensures.planes;
      schedule = held.schedule;
      lists = held.lists;
      lanes = λ lane loaded at. subst (λ (values : List Pair). LaneHolds Completed netlist loaded values lane) (sym values_back.are) (filled lane loaded at);
      faults = λ lane loaded at begun.
          let here = inside lane loaded at in
          let listings = c.listings-2.result.now in
          let is : lane_listed listings lane ≡ loaded.listed = c.listings-2.ensures.lanes lane loaded at in
          let was : HoldsForced netlist values lane (lane_listed listings lane) = subst (HoldsForced netlist values lane) (sym is) (filled lane loaded at) in
          let noted = subst (λ (planes : List Pair). IsNoted netlist listings planes lane (fault_at c.note_faults.new.faults lane)) read (c.note_faults.ensures lane here) in
          subst (λ (all : List (Option LaneFault)). IsLaneFault netlist loaded.listed (fault_at all lane)) (sym faults_back.are)
          (subst (λ (l : List (Option Bool)). IsLaneFault netlist l (fault_at c.note_faults.new.faults lane)) is
          (lane-fault netlist held.schedule.circuit held.schedule.whole listings values lane was.0 here (values_back.long ∙ held.values_count) (c.listings-2.ensures.count ∙ held.nodes) c.fill-are_evaluated.ensures.planes was.1 was.2
          noted.first (fault_at c.note_faults.new.faults lane) noted.among_nodes noted.among_gates));
      unsettled = λ settled. cc;
    }

pub returns : goal.returns
returns c = ap (λ (s : Seen). record s { stage = Completed }) c.self.view_is
