use Rattle.std.proofs.Common.{◌<◌, Some, ap, ◌∙◌, arith}
use Rattle.hz_core.specs.Netlist.{variable_count}
use Rattle.hz_net.proofs.Places.{length-network_of}
use Rattle.hz_net.proofs.Wires.{variable_kinds-wire}
use Rattle.hz_net.proofs.Wired.{is_gate_of, named-into}
use Rattle.hz_pass.proofs.forcing.gate_of.Goals as goal

pub unreachable-requires : goal.unreachable-requires
unreachable-requires c =
    let below : c.args.wire < variable_count c.args.net.now = omega (arith, length-network_of c.args.net.now c.requires.circuit) in
    let is = variable_kinds-wire c.args.net.now c.args.wire c.requires.circuit c.requires.above below in
    cc

pub unreachable-requires-in-Input : goal.unreachable-requires-in-Input
unreachable-requires-in-Input c =
    let below : c.args.wire < variable_count c.args.net.now = omega (arith, length-network_of c.args.net.now c.requires.circuit) in
    let is = variable_kinds-wire c.args.net.now c.args.wire c.requires.circuit c.requires.above below in
    cc

pub returns-clause-gate : goal.returns-clause-gate
returns-clause-gate c =
    let below : c.args.wire < variable_count c.args.net.now = omega (arith, length-network_of c.args.net.now c.requires.circuit) in
    let into = named-into c.args.net.now c.requires.circuit c.args.wire c.in-Wire.gate c.in-Wire.pin c.in-Wire.source c.requires.above below (c.kind_of.ensures ∙ ap Some c.in-Wire.is) in
    (is_gate_of c.args.net.now c.requires.circuit c.in-Wire.gate into.kind into.first into.pins into.driven).is_gate

pub returns-clause-into : goal.returns-clause-into
returns-clause-into c =
    let below : c.args.wire < variable_count c.args.net.now = omega (arith, length-network_of c.args.net.now c.requires.circuit) in
    named-into c.args.net.now c.requires.circuit c.args.wire c.in-Wire.gate c.in-Wire.pin c.in-Wire.source c.requires.above below (c.kind_of.ensures ∙ ap Some c.in-Wire.is)
