-- A wire's word is made of its gate and its pin.
use Rattle.std.proofs.Common.{◌≡◌, ◌+◌, ◌∷◌, ◌++◌, [], List, ℕ, ap, ◌∙◌, arith, decimal}
use Rattle.std.proofs.lemmas.Option.{get_or_from_slice_get}
use Rattle.hz_core.specs.Netlist.{node_name}
use Rattle.hz_net.specs.declared.variable.VarKind.TheVariants.{Input as InputKind, Gate as GateKind}
use Rattle.hz_text.proofs.VariableWords.{node_is_below, told_word, told_bounds}
use Rattle.hz_text.proofs.variable.gate_and_pin.Goals as goal

pub unreachable-requires : goal.unreachable-requires
unreachable-requires c =
    let below = node_is_below c.args.net.now c.args.wire (InputKind c.in-Input.number) c.circuit-circuit.ensures.circuit c.requires.within c.in-Input.ensures tt in
    omega (arith, below, c.requires.node)

pub unreachable-requires-in-Gate : goal.unreachable-requires-in-Gate
unreachable-requires-in-Gate c =
    let below = node_is_below c.args.net.now c.args.wire (GateKind c.in-Gate.kind) c.circuit-circuit.ensures.circuit c.requires.within c.in-Gate.ensures tt in
    omega (arith, below, c.requires.node)

pub name-requires : goal.name-requires
name-requires c =
    let same = c.circuit-circuit.ensures in
    rw same.same
    (told_bounds c.args.net.now c.args.wire c.in-Wire.gate c.in-Wire.pin c.in-Wire.source same.circuit same.whole c.requires.within c.in-Wire.ensures).0

pub returns-clause-pin : goal.returns-clause-pin
returns-clause-pin c =
    let same = c.circuit-circuit.ensures in
    (told_bounds c.args.net.now c.args.wire c.in-Wire.gate c.in-Wire.pin c.in-Wire.source same.circuit same.whole c.requires.within c.in-Wire.ensures).1

pub returns-clause-word : goal.returns-clause-word
returns-clause-word c =
    let same = c.circuit-circuit.ensures in
    let name = c.name.result.now in
    let named : node_name c.args.net.now.names c.in-Wire.gate ≡ name =
    get_or_from_slice_get c.args.net.now.names c.in-Wire.gate name [] (rw same.same at c.name.ensures.name) in
    told_word c.args.net.now c.args.wire c.in-Wire.gate c.in-Wire.pin c.in-Wire.source same.circuit same.whole c.requires.within c.in-Wire.ensures
    ∙ ap (λ (word : List ℕ). word ++ 40 ∷ decimal (c.in-Wire.pin + 1) ++ 41 ∷ []) named
