use Rattle.std.proofs.Common.{◌∙◌, ◌-◌, get_or, sym, ap, arith}
use Rattle.hz_core.specs.Netlist.{IsGateNumber}
use Rattle.hz_net.specs.declared.entry.Entry.TheVariants.{Wire}
use Rattle.hz_net.proofs.Places.{at-entries_of-input, at-entries_of-gate}
use Rattle.hz_net.proofs.Parts.{gates-counted, goes-counted, comes-counted, gate-kept, wires-kept, wire-kept}
use Rattle.hz_net.proofs.entry.Parts.at.Goals as goal

pub returns-then-var-inputs : goal.returns-then-var-inputs
returns-then-var-inputs c = sym (at-entries_of-input c.args.circuit.now c.args.var _ (omega arith))

pub index-wires-requires : goal.index-wires-requires
index-wires-requires c =
    omega (arith, gates-counted c.args.circuit.now _ _ _ c.requires.parts, c.inputs-inputs.ensures.circuit.nodes)

pub returns-then-var-nodes : goal.returns-then-var-nodes
returns-then-var-nodes c =
    let circuit = c.inputs-inputs.ensures.circuit in
    let is_gate : IsGateNumber c.args.circuit.now c.args.var = (omega arith, omega arith) in
    gate-kept c.args.circuit.now _ _ _ c.requires.parts c.args.var c.index-wires.result.now circuit is_gate
    (c.index-wires.ensures ∙ ap (λ n. get_or c.args.self.now.gates.items (c.args.var - n) c.index-wires.result.now) c.inputs-inputs.ensures.inputs) ∙
    sym (at-entries_of-gate c.args.circuit.now c.args.var _ circuit is_gate)

pub index-gate-requires : goal.index-gate-requires
index-gate-requires c = omega (arith, goes-counted c.args.circuit.now _ _ _ c.requires.parts)

pub index-source-requires : goal.index-source-requires
index-source-requires c = omega (arith, comes-counted c.args.circuit.now _ _ _ c.requires.parts)

pub overflow_sub-gate : goal.overflow_sub-gate
overflow_sub-gate c =
    let told = wire-kept c.args.circuit.now _ _ _ c.requires.parts c.args.var c.nodes-nodes.result c.index-gate.result.now c.index-source.result.now
    c.inputs-inputs.ensures.circuit c.requires.whole c.nodes-nodes.ensures.nodes (omega arith) c.requires.var c.index-gate.ensures c.index-source.ensures in
    omega (arith, told.is_gate.0)

pub index-into-requires : goal.index-into-requires
index-into-requires c =
    let told = wire-kept c.args.circuit.now _ _ _ c.requires.parts c.args.var c.nodes-nodes.result c.index-gate.result.now c.index-source.result.now
    c.inputs-inputs.ensures.circuit c.requires.whole c.nodes-nodes.ensures.nodes (omega arith) c.requires.var c.index-gate.ensures c.index-source.ensures in
    omega (arith, told.is_gate.0, told.is_gate.1, gates-counted c.args.circuit.now _ _ _ c.requires.parts, c.inputs-inputs.ensures.circuit.nodes)

pub overflow_sub-pin : goal.overflow_sub-pin
overflow_sub-pin c =
    let told = wire-kept c.args.circuit.now _ _ _ c.requires.parts c.args.var c.nodes-nodes.result c.index-gate.result.now c.index-source.result.now
    c.inputs-inputs.ensures.circuit c.requires.whole c.nodes-nodes.ensures.nodes (omega arith) c.requires.var c.index-gate.ensures c.index-source.ensures in
    let into = wires-kept c.args.circuit.now _ _ _ c.requires.parts c.index-gate.result.now c.inputs-inputs.result c.index-into.result.now
    c.inputs-inputs.ensures.circuit told.is_gate c.inputs-inputs.ensures.inputs c.index-into.ensures in
    omega (arith, told.stands, into.first)

pub overflow_cast-pin : goal.overflow_cast-pin
overflow_cast-pin c =
    let told = wire-kept c.args.circuit.now _ _ _ c.requires.parts c.args.var c.nodes-nodes.result c.index-gate.result.now c.index-source.result.now
    c.inputs-inputs.ensures.circuit c.requires.whole c.nodes-nodes.ensures.nodes (omega arith) c.requires.var c.index-gate.ensures c.index-source.ensures in
    let into = wires-kept c.args.circuit.now _ _ _ c.requires.parts c.index-gate.result.now c.inputs-inputs.result c.index-into.result.now
    c.inputs-inputs.ensures.circuit told.is_gate c.inputs-inputs.ensures.inputs c.index-into.ensures in
    omega (arith, told.stands, told.short, into.first)

pub returns : goal.returns
returns c =
    let told = wire-kept c.args.circuit.now _ _ _ c.requires.parts c.args.var c.nodes-nodes.result c.index-gate.result.now c.index-source.result.now
    c.inputs-inputs.ensures.circuit c.requires.whole c.nodes-nodes.ensures.nodes (omega arith) c.requires.var c.index-gate.ensures c.index-source.ensures in
    let into = wires-kept c.args.circuit.now _ _ _ c.requires.parts c.index-gate.result.now c.inputs-inputs.result c.index-into.result.now
    c.inputs-inputs.ensures.circuit told.is_gate c.inputs-inputs.ensures.inputs c.index-into.ensures in
    ap (λ pin. Wire pin c.index-gate.result.now c.index-source.result.now) (omega (arith, told.stands, into.first)) ∙ sym (told.entry _)
