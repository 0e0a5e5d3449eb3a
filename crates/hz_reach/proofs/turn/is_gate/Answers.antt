-- A variable is an input, a gate or a wire.
use Rattle.std.proofs.Common.{◌∙◌, length, sym, ap, arith, inl, inr}
use Rattle.hz_reach.proofs.Words.{cases_lt, false_from_ne_true, Netlist}
use Rattle.std.proofs.lemmas.Bool.{lt-ltb, ltb-true}
use Rattle.hz_reach.proofs.GateTurn.{gate-is, input-is, wire-is}
use Rattle.hz_reach.proofs.turn.is_gate.Goals as goal

pub returns-then-var-inputs-clause-gate : goal.returns-then-var-inputs-clause-gate
returns-then-var-inputs-clause-gate c =
    let inputs = ap (λ (n : Netlist). n.inputs) c.circuit-circuit.ensures.same in
    sym (input-is c.args.net.now c.circuit-circuit.ensures.circuit c.args.var (omega (arith, inputs, c.inputs.ensures.inputs, c.if-var-inputs.true)))

pub returns-clause-gate : goal.returns-clause-gate
returns-clause-gate c =
    let inputs = ap (λ (n : Netlist). n.inputs) c.circuit-circuit.ensures.same in
    let nodes = ap (λ (n : Netlist). length n.names) c.circuit-circuit.ensures.same in
    elim (cases_lt c.args.var c.nodes.result) [
      | inl less ↦
          lt-ltb c.args.var c.nodes.result less
          ∙ sym (gate-is c.args.net.now c.circuit-circuit.ensures.circuit c.args.var (omega (arith, inputs, c.inputs.ensures.inputs, c.if-var-inputs.false), omega (arith, nodes, c.nodes.ensures.nodes, less)))
      | inr past ↦
          false_from_ne_true _ (λ less. omega (arith, past, ltb-true c.args.var c.nodes.result less))
          ∙ sym (wire-is c.args.net.now c.circuit-circuit.ensures.circuit c.args.var (omega (arith, nodes, c.nodes.ensures.nodes, past)) c.requires)
    ]
