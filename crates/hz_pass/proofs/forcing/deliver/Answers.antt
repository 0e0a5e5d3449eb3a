use Rattle.std.proofs.Common.{◌<◌, length, get_or, ap, arith, List, ℕ}
use Rattle.hz_net.specs.Variables.{fan_out_of}
use Rattle.hz_net.proofs.Places.{length-network_of}
use Rattle.hz_pass.proofs.Delivery.{wire-place, delivered-step}
use Rattle.hz_pass.proofs.forcing.deliver.Goals as goal

pub slice_copy_out-value : goal.slice_copy_out-value
slice_copy_out-value c = omega (arith, length-network_of c.args.net.now c.requires.circuit)

pub bounds-values-wire : goal.bounds-values-wire
bounds-values-wire c =
    let few : c.loop-wire.wire-index < length (fan_out_of c.args.net.now c.args.node) = omega (arith, ap length c.fan_out-wire-items.ensures) in
    let place = wire-place c.args.net.now c.args.node c.loop-wire.wire-index _ c.requires.circuit few (ap (λ (wires : List ℕ). get_or wires c.loop-wire.wire-index 0) c.fan_out-wire-items.ensures) in
    omega (arith, place.1, c.loop-wire.invariant.long)

pub gate_of-requires-clause-above : goal.gate_of-requires-clause-above
gate_of-requires-clause-above c =
    let few : c.loop-wire.wire-index < length (fan_out_of c.args.net.now c.args.node) = omega (arith, ap length c.fan_out-wire-items.ensures) in
    (wire-place c.args.net.now c.args.node c.loop-wire.wire-index _ c.requires.circuit few (ap (λ (wires : List ℕ). get_or wires c.loop-wire.wire-index 0) c.fan_out-wire-items.ensures)).0

pub gate_of-requires-clause-below : goal.gate_of-requires-clause-below
gate_of-requires-clause-below c =
    let few : c.loop-wire.wire-index < length (fan_out_of c.args.net.now c.args.node) = omega (arith, ap length c.fan_out-wire-items.ensures) in
    (wire-place c.args.net.now c.args.node c.loop-wire.wire-index _ c.requires.circuit few (ap (λ (wires : List ℕ). get_or wires c.loop-wire.wire-index 0) c.fan_out-wire-items.ensures)).1

pub loop-wire-preserved : goal.loop-wire-preserved
loop-wire-preserved c =
    let few : c.loop-wire.wire-index < length (fan_out_of c.args.net.now c.args.node) = omega (arith, ap length c.fan_out-wire-items.ensures) in
    delivered-step c.args.net.now c.args.node _ _ c.loop-wire.values _ _ c.loop-wire.waiting.items _ c.loop-wire.wire-index _ c.gate_of.result c.requires.circuit c.requires.node c.loop-wire.invariant few (ap (λ (wires : List ℕ). get_or wires c.loop-wire.wire-index 0) c.fan_out-wire-items.ensures) c.gate_of.ensures.gate c.gate_of.ensures.into c.in_ok-set_gate.ensures
