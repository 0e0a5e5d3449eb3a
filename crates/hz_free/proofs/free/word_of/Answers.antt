-- The word of a node, by what it is.
use Rattle.std.proofs.Common.{arith, ◌∙◌, ◌+◌, sym, subst, length, map, List, Option, All, IsTrue}
use Rattle.hz_core.specs.Gate.{takes}
use Rattle.hz_core.specs.Netlist.{gate_at}
use Rattle.hz_net.specs.Network.{network_of}
use Rattle.hz_net.specs.Variables.{first_wire}
use Rattle.hz_net.specs.declared.variable.VarKind.TheVariants.{Input, Gate as GateVariable, Wire as WireVariable}
use Rattle.hz_net.proofs.Wires.{IsWireFrom-driver_at}
use Rattle.hz_gmw.proofs.Counts.{nodes-among}
use Rattle.hz_word.specs.declared.word.Word.{Word}
use Rattle.hz_free.specs.CappedWords.{HasCountedWord, IsGateWord}
use Rattle.hz_free.proofs.KeptWords.{map-slice_range, length-slice_range}
use Rattle.hz_free.proofs.NextWord.{node-driven, next-input, counted-wires, next-gate, length-wires, driven-at}
use Rattle.hz_free.proofs.free.word_of.Goals as goal

pub kind_of-requires : goal.kind_of-requires
kind_of-requires g c = omega (arith, c.requires.node, nodes-among c.args.folding.now.net.now c.requires.folding.circuit)

pub bounds-folding-node : goal.bounds-folding-node
bounds-folding-node g c = omega (arith, c.requires.node, c.requires.folding.start.long, nodes-among c.args.folding.now.net.now c.requires.folding.circuit)

pub bounds-folding-number : goal.bounds-folding-number
bounds-folding-number g c =
    let as_input = node-driven c.args.folding.now c.args.node (Input c.in-Input.number) c.requires.folding c.requires.node c.in-Input.ensures in
    let inside = as_input.1 in
    omega (arith, inside, c.requires.folding.input)

pub wires_in-first-requires : goal.wires_in-first-requires
wires_in-first-requires g c =
    (node-driven c.args.folding.now c.args.node (GateVariable c.in-Gate.kind) c.requires.folding c.requires.node c.in-Gate.ensures).0

pub gate_word-requires-clause-takes : goal.gate_word-requires-clause-takes
gate_word-requires-clause-takes g c =
    let as_gate = node-driven c.args.folding.now c.args.node (GateVariable c.in-Gate.kind) c.requires.folding c.requires.node c.in-Gate.ensures in
    let driven = driven-at (network_of c.args.folding.now.net.now) c.args.node c.in-Gate.kind (first_wire c.args.folding.now.net.now c.args.node) (length (gate_at c.args.folding.now.net.now c.args.node).sources) c.wires_in-first.result.0 c.wires_in-first.result.1 as_gate.1 c.wires_in-first.ensures.first c.wires_in-first.ensures.pins in
    let long = length-wires c.args.folding.now.net.now c.requires.folding.circuit c.args.folding.now.input.now c.args.folding.now.start.now c.args.folding.now.cap c.args.node (map g.S.StoredWord.word_in c.args.out.now) c.in-Gate.kind c.wires_in-first.result.0 c.wires_in-first.result.1 driven c.wires_in-first.ensures.inside c.requires.ready in
    subst (λ n. IsTrue (takes c.in-Gate.kind n)) (sym (length-slice_range g.S.StoredWord.word_in c.args.out.now c.wires_in-first.result.0 (c.wires_in-first.result.0 + c.wires_in-first.result.1) ∙ (long ∙ c.wires_in-first.ensures.pins))) as_gate.3

pub gate_word-requires-clause-counted : goal.gate_word-requires-clause-counted
gate_word-requires-clause-counted g c =
    let as_gate = node-driven c.args.folding.now c.args.node (GateVariable c.in-Gate.kind) c.requires.folding c.requires.node c.in-Gate.ensures in
    let driven = driven-at (network_of c.args.folding.now.net.now) c.args.node c.in-Gate.kind (first_wire c.args.folding.now.net.now c.args.node) (length (gate_at c.args.folding.now.net.now c.args.node).sources) c.wires_in-first.result.0 c.wires_in-first.result.1 as_gate.1 c.wires_in-first.ensures.first c.wires_in-first.ensures.pins in
    subst (All (HasCountedWord c.args.folding.now.cap)) (sym (map-slice_range g.S.StoredWord.word_in c.args.out.now c.wires_in-first.result.0 (c.wires_in-first.result.0 + c.wires_in-first.result.1)))
    (counted-wires c.args.folding.now.net.now c.requires.folding.circuit c.args.folding.now.input.now c.args.folding.now.start.now c.args.folding.now.cap c.args.node (map g.S.StoredWord.word_in c.args.out.now) c.in-Gate.kind c.wires_in-first.result.0 c.wires_in-first.result.1 driven c.wires_in-first.ensures.inside c.requires.ready)

pub returns-in-Input : goal.returns-in-Input
returns-in-Input g c =
    let as_input = node-driven c.args.folding.now c.args.node (Input c.in-Input.number) c.requires.folding c.requires.node c.in-Input.ensures in
    next-input c.args.folding.now.net.now c.requires.folding.circuit c.args.folding.now.input.now c.args.folding.now.start.now c.args.folding.now.cap c.args.node (map g.S.StoredWord.word_in c.args.out.now) c.in-Input.number c.input_word.result as_input.0
    (c.input_word.ensures c.args.folding.now.cap c.requires.folding.cap_low)

pub returns-in-Gate : goal.returns-in-Gate
returns-in-Gate g c =
    let as_gate = node-driven c.args.folding.now c.args.node (GateVariable c.in-Gate.kind) c.requires.folding c.requires.node c.in-Gate.ensures in
    let driven = driven-at (network_of c.args.folding.now.net.now) c.args.node c.in-Gate.kind (first_wire c.args.folding.now.net.now c.args.node) (length (gate_at c.args.folding.now.net.now c.args.node).sources) c.wires_in-first.result.0 c.wires_in-first.result.1 as_gate.1 c.wires_in-first.ensures.first c.wires_in-first.ensures.pins in
    next-gate c.args.folding.now.net.now c.requires.folding.circuit c.args.folding.now.input.now c.args.folding.now.start.now c.args.folding.now.cap c.args.node (map g.S.StoredWord.word_in c.args.out.now) c.in-Gate.kind c.wires_in-first.result.0 c.wires_in-first.result.1 driven c.wires_in-first.ensures.inside c.gate_word.result
    (subst (λ (wires : List (Option Word)). IsGateWord c.in-Gate.kind wires c.args.folding.now.cap c.gate_word.result) (map-slice_range g.S.StoredWord.word_in c.args.out.now c.wires_in-first.result.0 (c.wires_in-first.result.0 + c.wires_in-first.result.1)) c.gate_word.ensures)

pub unreachable-requires : goal.unreachable-requires
unreachable-requires g c =
    let as_wire = node-driven c.args.folding.now c.args.node (WireVariable c.in-Wire.gate c.in-Wire.pin c.in-Wire.source) c.requires.folding c.requires.node c.in-Wire.ensures in
    let above = (IsWireFrom-driver_at c.args.folding.now.net.now c.args.node c.in-Wire.source c.requires.folding.circuit as_wire.0).above in
    omega (arith, above, c.requires.node)
