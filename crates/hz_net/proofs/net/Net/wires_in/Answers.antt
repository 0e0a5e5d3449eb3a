use Rattle.std.proofs.Common.{◌∙◌, ap, arith}
use Rattle.hz_core.specs.Netlist.{Netlist}
use Rattle.hz_net.proofs.Places.{length-network_of, first_wire-bound}
use Rattle.hz_net.proofs.Parts.{gates-counted, wires-kept}
use Rattle.hz_net.proofs.Fields.{circuit_of, parts_of}
use Rattle.hz_net.proofs.net.Net.wires_in.Goals as goal

pub index-wires-requires : goal.index-wires-requires
index-wires-requires c =
    omega (
      arith,
      gates-counted c.args.self.now _ _ _ (parts_of c.self.inside c.args.self.now c.self.view_is c.self.invariant),
      (circuit_of c.self.inside c.args.self.now c.self.view_is c.self.invariant).nodes,
      ap (λ (n : Netlist). n.inputs) c.self.view_is,
      c.requires.1,
    )

pub returns : goal.returns
returns c =
    let netlist = c.args.self.now in
    let circuit = circuit_of c.self.inside netlist c.self.view_is c.self.invariant in
    let wires = wires-kept netlist _ _ _ (parts_of c.self.inside netlist c.self.view_is c.self.invariant) c.args.gate c.inputs.result c.index-wires.result.now
    circuit c.requires (c.inputs.ensures.inputs ∙ ap (λ (n : Netlist). n.inputs) c.self.view_is) c.index-wires.ensures in
    record {
      first = wires.first;
      pins = wires.pins;
      inside = omega (arith, wires.first, wires.pins, first_wire-bound netlist c.args.gate circuit c.requires, length-network_of netlist circuit);
    }
