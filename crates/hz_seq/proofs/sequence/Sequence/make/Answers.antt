use Rattle.std.proofs.Common.{◌≡◌, ◌∙◌, Bool, List, length, refl, sym, ap, subst, arith}
use Rattle.std.specs.Prelude.{MatchOption}
use Rattle.std.specs.Vec.{with_items}
use Rattle.std.proofs.lemmas.List.{with_items_is}
use Rattle.hz_core.specs.declared.tri.Tri.{Tri}
use Rattle.hz_core.specs.Netlist.{Netlist, IsCircuit}
use Rattle.hz_net.specs.Network.{network_of}
use Rattle.hz_net.specs.Starts.{IsStableStart}
use Rattle.hz_desk.specs.Finding.{FindingOf, finding_of, values_b}
use Rattle.hz_desk.specs.RightFinding.{IsRightFinding}
use Rattle.hz_net.proofs.Places.{length-network_of}
use Rattle.hz_seq.specs.Sequence.{IsSettledAt, IsFirstUnknown}
use Rattle.hz_seq.proofs.FindingEffects.{left-by, stable-left}
use Rattle.hz_seq.proofs.sequence.Sequence.make.Goals as goal

pub invariant_of-self : goal.invariant_of-self
invariant_of-self c =
    let state : List Bool = c.settle-self-inside.new.state in
    let kept : c.change.follows.lender-at-none.netlist ≡ c.self.inside.desk.netlist = c.change.follows.holds-at-none.0 in
    let long : length state ≡ c.self.inside.start.len = omega (arith, c.settle-self-inside.auto.state, c.as_mut_slice-2.ensures.len) in
    let items : (with_items c.self.inside.start state).items ≡ state = with_items_is c.self.inside.start state long in
    let room : length c.write_input.new.input ≡ c.self.inside.input.len = omega (arith, c.write_input.auto.input, c.as_mut_slice.ensures.len) in
    let input : length (with_items c.self.inside.input c.write_input.new.input).items ≡ c.self.inside.desk.netlist.inputs =
    ap length (with_items_is c.self.inside.input c.write_input.new.input room)
    ∙ (c.write_input.auto.input ∙ (ap length c.as_mut_slice.ensures.value ∙ c.self.invariant.input)) in
    let given : length c.as_slice-3.result.now ≡ c.self.inside.desk.netlist.inputs = ap length c.as_slice-3.ensures.value ∙ input in
    let circuit : IsCircuit c.self.inside.desk.netlist = subst IsCircuit c.net.ensures c.keeps_shape.ensures.circuit in
    let values : c.values_b-values.result.now ≡ values_b (finding_of c.change.result.now).rows =
    c.values_b-values.ensures ∙ ap (λ (f : FindingOf). values_b f.rows) (c.finding-found.ensures.same ∙ c.change.follows.holds-at-none.1) in
    let settled : MatchOption c.settle-self-inside.result (IsSettledAt (values_b (finding_of c.change.result.now).rows) state) (IsFirstUnknown (values_b (finding_of c.change.result.now).rows)) =
    subst (λ (list : List Tri). MatchOption c.settle-self-inside.result (IsSettledAt list state) (IsFirstUnknown list)) values c.settle-self-inside.ensures in
    record {
      start = ap length items
          ∙ (c.settle-self-inside.auto.state
          ∙ (ap length c.as_mut_slice-2.ensures.value ∙ (c.self.invariant.start ∙ ap (λ (netlist : Netlist). length (network_of netlist)) (sym kept))));
      stable = λ none.
          subst (λ (netlist : Netlist). IsStableStart netlist (with_items c.self.inside.start state).items) (sym kept)
          (subst (IsStableStart c.self.inside.desk.netlist) (sym items)
          (stable-left c.self.inside.desk.netlist c.as_slice-3.result.now c.as_slice-2.result.now state c.args.cap (finding_of c.change.result.now) c.settle-self-inside.result
          circuit given c.change.ensures.right settled none));
      input = input ∙ ap (λ (netlist : Netlist). netlist.inputs) (sym kept);
    }

pub returns-clause-after : goal.returns-clause-after
returns-clause-after c =
    let state : List Bool = c.settle-self-inside.new.state in
    let long : length state ≡ c.self.inside.start.len = omega (arith, c.settle-self-inside.auto.state, c.as_mut_slice-2.ensures.len) in
    let items : (with_items c.self.inside.start state).items ≡ state = with_items_is c.self.inside.start state long in
    let values : c.values_b-values.result.now ≡ values_b c.change.follows.lender-at-none.finding.rows =
    c.values_b-values.ensures ∙ ap (λ (f : FindingOf). values_b f.rows) c.finding-found.ensures.same in
    let settled : MatchOption c.settle-self-inside.result (IsSettledAt (values_b c.change.follows.lender-at-none.finding.rows) (with_items c.self.inside.start state).items) (IsFirstUnknown (values_b c.change.follows.lender-at-none.finding.rows)) =
    subst (λ (bits : List Bool). MatchOption c.settle-self-inside.result (IsSettledAt (values_b c.change.follows.lender-at-none.finding.rows) bits) (IsFirstUnknown (values_b c.change.follows.lender-at-none.finding.rows))) (sym items)
    (subst (λ (list : List Tri). MatchOption c.settle-self-inside.result (IsSettledAt list state) (IsFirstUnknown list)) values c.settle-self-inside.ensures) in (
      c.change.follows.holds-at-none.0 ∙ ap (λ s. s.desk.netlist) c.self.view_is,
      refl,
      left-by c.settle-self-inside.result (values_b c.change.follows.lender-at-none.finding.rows) (with_items c.self.inside.start state).items settled,
    )

pub write_input-requires-clause-state : goal.write_input-requires-clause-state
write_input-requires-clause-state c =
    let circuit : IsCircuit c.self.inside.desk.netlist = subst IsCircuit c.net.ensures c.keeps_shape.ensures.circuit in
    omega (
      arith,
      ap length c.as_mut_slice.ensures.value,
      c.self.invariant.input,
      ap length c.as_slice.ensures.value,
      c.self.invariant.start,
      length-network_of c.self.inside.desk.netlist circuit,
      circuit.nodes,
    )
