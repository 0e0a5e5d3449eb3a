use Rattle.std.proofs.Common.{◌≡◌, List, Bool, length, ap, ◌∙◌, arith, sym, subst}
use Rattle.hz_net.specs.Network.{network_of, bit_at, excitation}
use Rattle.std.proofs.lemmas.List.{length-take}
use Rattle.hz_core.specs.Netlist.{Netlist}
use Rattle.hz_net.proofs.Places.{length-network_of}
use Rattle.hz_pass.proofs.completed_start.least_unstable.Goals as goal

pub slice_bounds-input-end : goal.slice_bounds-input-end
slice_bounds-input-end c =
    omega (arith, c.inputs.ensures.inputs, ap (λ (n : Netlist). n.inputs) c.circuit-circuit.ensures.same, c.requires.state, c.requires.circuit.nodes, length-network_of c.args.net.now c.requires.circuit, length-take c.inputs.result c.args.state.now)

pub bounds-state-gate : goal.bounds-state-gate
bounds-state-gate c = omega (arith, c.loop-gate.invariant.0, c.requires.state, length-network_of c.args.net.now c.requires.circuit)

pub excitation_of-requires-clause-input : goal.excitation_of-requires-clause-input
excitation_of-requires-clause-input c =
    ap length c.loop-gate.invariant.2 ∙ omega (arith, c.requires.state, c.requires.circuit.nodes, length-network_of c.args.net.now c.requires.circuit, length-take c.args.net.now.inputs c.args.state.now)

pub excitation_of-requires-clause-follow : goal.excitation_of-requires-clause-follow
excitation_of-requires-clause-follow c =
    λ unlisted.
    subst (λ (input : List Bool). bit_at c.args.state.now c.loop-gate.gate ≡ excitation (network_of c.args.net.now) input c.args.state.now c.loop-gate.gate) (sym c.loop-gate.invariant.2)
    (c.requires.follow c.loop-gate.gate (omega arith, omega (arith, c.loop-gate.invariant.0)) unlisted)
