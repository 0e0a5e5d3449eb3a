use Rattle.std.proofs.Common.{◌≡◌, ◌<◌, Some, get_or, length, ap, ◌∙◌, ◌-◌, arith}
use Rattle.hz_core.specs.Netlist.{variable_count}
use Rattle.hz_net.specs.Network.{Source, wires_of}
use Rattle.hz_net.proofs.Places.{no_wire, length-network_of, driver_at-wire}
use Rattle.hz_net.proofs.Wires.{IsWireFrom-node, variable_kinds-wire}
use Rattle.hz_pass.proofs.sweep.source_of.Goals as goal

pub unreachable-requires : goal.unreachable-requires
unreachable-requires c =
    let below : c.args.wire < variable_count c.args.net.now = omega (arith, length-network_of c.args.net.now c.requires.circuit) in
    let is = variable_kinds-wire c.args.net.now c.args.wire c.requires.circuit c.requires.above below in
    cc

pub unreachable-requires-in-Input : goal.unreachable-requires-in-Input
unreachable-requires-in-Input c =
    let below : c.args.wire < variable_count c.args.net.now = omega (arith, length-network_of c.args.net.now c.requires.circuit) in
    let is = variable_kinds-wire c.args.net.now c.args.wire c.requires.circuit c.requires.above below in
    cc

pub returns : goal.returns
returns c =
    let netlist = c.args.net.now in
    let below : c.args.wire < variable_count netlist = omega (arith, length-network_of netlist c.requires.circuit) in
    let is = variable_kinds-wire netlist c.args.wire c.requires.circuit c.requires.above below in
    let told = c.kind_of.ensures ∙ ap Some c.in-Wire.is in
    let same : (get_or (wires_of netlist) (c.args.wire - length netlist.names) no_wire).source ≡ c.in-Wire.source = cc in
    record {
      source = driver_at-wire netlist c.args.wire c.requires.circuit c.requires.above below ∙ ap Source same;
      node = IsWireFrom-node netlist c.args.wire c.in-Wire.source c.requires.circuit (record { above = c.requires.above; below = below; source = same });
    }
