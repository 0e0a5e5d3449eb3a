use Rattle.std.proofs.Common.{◌≡◌, ◌<◌, ℕ, Bool, List, length, get_or, ap, ◌∙◌, arith}
use Rattle.hz_reach.proofs.Words.{differs, Netlist, IsCircuit, bit_at, network_of, fan_out_of, length-network_of}
use Rattle.hz_reach.proofs.FanOut.{marks-ascend, fan_out-inside}
use Rattle.hz_reach.proofs.turn.mark_with_fan_out.Goals as goal

pub bounds-state-node : goal.bounds-state-node
bounds-state-node c =
    omega (arith, c.requires.gate.1, c.requires.scratch.long, length-network_of c.args.net.now c.requires.circuit, ap (length {A = Bool}) c.state.ensures)

pub mark-requires-clause-inside : goal.mark-requires-clause-inside
mark-requires-clause-inside c =
    omega (arith, c.requires.gate.1, c.requires.scratch.long, length-network_of c.args.net.now c.requires.circuit)

-- a wire of the fan-out, as the code reads it, is a variable
wire-inside : (netlist : Netlist) (node place : ℕ) {read : List ℕ} → IsCircuit netlist → read ≡ fan_out_of netlist node → place < length read → get_or read place 0 < length (network_of netlist)
wire-inside netlist node place circuit same less = rw same (fan_out-inside netlist node place circuit (rw same at less))

pub bounds-state-wire : goal.bounds-state-wire
bounds-state-wire c =
    omega (
      arith,
      wire-inside c.args.net.now c.args.node c.loop-wire.wire-index c.requires.circuit c.fan_out-wire-items.ensures c.loop-wire-test.true,
      c.requires.scratch.long,
      ap (length {A = Bool}) (c.state-in-loop-wire.ensures ∙ c.loop-wire.invariant.1),
    )

pub mark_if-requires-clause-inside : goal.mark_if-requires-clause-inside
mark_if-requires-clause-inside c =
    omega (
      arith,
      wire-inside c.args.net.now c.args.node c.loop-wire.wire-index c.requires.circuit c.fan_out-wire-items.ensures c.loop-wire-test.true,
      c.requires.scratch.long,
      ap (length {A = Bool}) c.loop-wire.invariant.1,
    )

pub mark_if-requires-clause-ascending : goal.mark_if-requires-clause-ascending
mark_if-requires-clause-ascending c =
    let test : ℕ → Bool = λ wire. differs (bit_at c.args.scratch.now.state wire) (bit_at c.args.scratch.now.state c.args.node) in
    let inside : c.loop-wire.wire-index < length (fan_out_of c.args.net.now c.args.node) = rw c.fan_out-wire-items.ensures at c.loop-wire-test.true in
    rw (c.loop-wire.invariant.0, c.fan_out-wire-items.ensures)
    (λ i there. marks-ascend c.args.net.now c.args.node test c.loop-wire.wire-index i c.requires.gate.1 inside there)
