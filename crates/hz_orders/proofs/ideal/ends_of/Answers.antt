-- What stands above the nodes is a wire.
use Rattle.std.proofs.Common.{◌<◌, Some, ap, ◌∙◌, arith}
use Rattle.hz_core.specs.Netlist.{variable_count}
use Rattle.hz_net.specs.declared.variable.VarKind.TheVariants.{Wire as WireVariable}
use Rattle.hz_net.proofs.Places.{length-network_of}
use Rattle.hz_net.proofs.Wires.{variable_kinds-wire}
use Rattle.hz_net.proofs.Wired.{is_gate_of}
use Rattle.hz_net.proofs.DrivenLemmas.{driven-as}
use Rattle.hz_orders.proofs.ideal.ends_of.Goals as goal

pub unreachable-requires : goal.unreachable-requires
unreachable-requires c =
    let below : c.args.wire < variable_count c.args.net.now = omega (arith, length-network_of c.args.net.now c.requires.circuit) in
    let is = variable_kinds-wire c.args.net.now c.args.wire c.requires.circuit c.requires.above below in
    cc

pub unreachable-requires-in-Input : goal.unreachable-requires-in-Input
unreachable-requires-in-Input c =
    let below : c.args.wire < variable_count c.args.net.now = omega (arith, length-network_of c.args.net.now c.requires.circuit) in
    let is = variable_kinds-wire c.args.net.now c.args.wire c.requires.circuit c.requires.above below in
    cc

pub returns-clause-ends : goal.returns-clause-ends
returns-clause-ends c =
    let is = driven-as c.args.net.now c.args.wire (WireVariable c.in-Wire.gate c.in-Wire.pin c.in-Wire.source) c.requires.circuit c.requires.whole c.requires.below (c.kind_of.ensures ∙ ap Some c.in-Wire.is) in
    let node = is.from_node in
    let above = is.above in
    record {
      gate = (is_gate_of c.args.net.now c.requires.circuit c.in-Wire.gate is.into.kind is.into.first is.into.pins is.into.driven).is_gate;
      into = is.into;
      driven = is.driven;
      inside = let below = c.requires.below in omega (arith, node, above, below);
    }
