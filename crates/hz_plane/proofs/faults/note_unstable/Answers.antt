use Rattle.std.proofs.Common.{◌+◌, ◌∙◌, ℕ, List, Option, sym, ap, subst, arith}
use Rattle.hz_core.specs.Netlist.{Netlist, IsGateNumber}
use Rattle.hz_plane.specs.declared.stage.LaneFault.{LaneFault}
use Rattle.hz_plane.specs.Bits.{has_lane, lane_bit}
use Rattle.hz_plane.specs.Faults.{fault_at, IsUnstableFault}
use Rattle.hz_plane.proofs.FaultNotes.{is-one, not-one, unstable-next, unstable-past}
use Rattle.hz_plane.proofs.faults.note_unstable.Goals as goal
use Rattle.hz_plane.proofs.faults.note_unstable.Goals.{then-not-is_empty, else-not-is_empty}

pub loop-gate-preserved : goal.loop-gate-preserved
loop-gate-preserved c =
    let netlist = c.args.net.now in
    let listings = c.args.listings.now in
    let values = c.args.values.now in
    let gate = c.loop-gate.gate in
    let is_gate : IsGateNumber netlist gate = subst (λ (n : Netlist). IsGateNumber n gate) c.circuit-circuit.ensures.same (omega (arith, c.loop-gate.auto.gate, c.inputs-gate.ensures.inputs), omega (arith, c.loop-gate-test.true, c.nodes-gate-end.ensures.nodes)) in
    elim c.if-not-is_empty.branch [
      | then-not-is_empty w ↦ record {
        lanes = λ lane inside. subst (λ (all : List (Option LaneFault)). IsUnstableFault netlist listings values lane (gate + 1) (fault_at c.args.faults.now lane) (fault_at all lane)) (sym w.faults-is)
            (subst (IsUnstableFault netlist listings values lane (gate + 1) (fault_at c.args.faults.now lane)) (sym (w.note_new-noted.ensures.lanes lane inside))
            (unstable-next netlist listings values lane gate (has_lane w.conflict.result lane) (fault_at c.args.faults.now lane) (fault_at c.loop-gate.faults lane) is_gate
            (λ found. ap (λ (words : List ℕ). lane_bit words lane) (sym w.conflict.ensures) ∙ is-one _ found)
            (λ none conflict. not-one _ none (ap (λ (words : List ℕ). lane_bit words lane) w.conflict.ensures ∙ conflict)) (c.loop-gate.invariant.lanes lane inside)));
        noted = λ lane inside none. ap (λ (set : List ℕ). has_lane set lane) w.noted-is ∙ w.note_new-noted.ensures.noted lane inside (ap (λ (all : List (Option LaneFault)). fault_at all lane) (sym w.faults-is) ∙ none);
      }
      | else-not-is_empty w ↦ record {
        lanes = λ lane inside. subst (λ (all : List (Option LaneFault)). IsUnstableFault netlist listings values lane (gate + 1) (fault_at c.args.faults.now lane) (fault_at all lane)) (sym w.faults-is)
            (unstable-past netlist listings values lane gate (fault_at c.args.faults.now lane) (fault_at c.loop-gate.faults lane) (c.is_empty.ensures w.if-not-is_empty.false lane inside) (c.loop-gate.invariant.lanes lane inside));
        noted = λ lane inside none. ap (λ (set : List ℕ). has_lane set lane) w.noted-is ∙ c.loop-gate.invariant.noted lane inside (ap (λ (all : List (Option LaneFault)). fault_at all lane) (sym w.faults-is) ∙ none);
      }
    ]
