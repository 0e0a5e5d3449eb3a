-- What a variable chooses, by what it is.
use Rattle.std.proofs.Common.{arith, length}
use Rattle.hz_core.specs.Netlist.{gate_at}
use Rattle.hz_net.specs.Network.{network_of}
use Rattle.hz_net.specs.Variables.{first_wire}
use Rattle.hz_net.specs.declared.variable.VarKind.TheVariants.{Input, Gate as GateVariable, Wire as WireVariable}
use Rattle.hz_free.proofs.NextWord.{driven-as, driven-at}
use Rattle.hz_free.proofs.Choices.{choice-input, choice-gate, choice-wire}
use Rattle.hz_free.proofs.feedback.choose.Goals as goal

pub wires_in-first-requires : goal.wires_in-first-requires
wires_in-first-requires c =
    (driven-as c.args.net.now c.args.var (GateVariable c.in-Gate.kind) c.keeps_shape.ensures.circuit c.keeps_shape.ensures.whole c.requires.var c.in-Gate.ensures).0

pub overflow_add-source : goal.overflow_add-source
overflow_add-source c =
    let as_wire = driven-as c.args.net.now c.args.var (WireVariable c.in-Wire.gate c.in-Wire.pin c.in-Wire.source) c.keeps_shape.ensures.circuit c.keeps_shape.ensures.whole c.requires.var c.in-Wire.ensures in
    let inside = as_wire.1 in
    let bound = c.keeps_shape.ensures.bound in
    omega arith

pub first_feeding-requires-in-Wire : goal.first_feeding-requires-in-Wire
first_feeding-requires-in-Wire c =
    let as_wire = driven-as c.args.net.now c.args.var (WireVariable c.in-Wire.gate c.in-Wire.pin c.in-Wire.source) c.keeps_shape.ensures.circuit c.keeps_shape.ensures.whole c.requires.var c.in-Wire.ensures in
    let inside = as_wire.1 in
    let long = c.requires.marks.long in
    omega arith

pub bounds-free-var : goal.bounds-free-var
bounds-free-var c = let long = c.requires.marks.long in let var = c.requires.var in omega arith

pub returns-then-free-var : goal.returns-then-free-var
returns-then-free-var c =
    let long = c.requires.marks.long in
    let free = (c.requires.marks.exact c.args.var c.requires.var).0 in
    rw c.none.ensures (free c.if-free-var.true)

pub returns-in-Input : goal.returns-in-Input
returns-in-Input c =
    let as_input = driven-as c.args.net.now c.args.var (Input _) c.keeps_shape.ensures.circuit c.keeps_shape.ensures.whole c.requires.var c.in-Input.ensures in
    rw c.none-in-Input.ensures (choice-input (network_of c.args.net.now) c.args.var _ as_input.0)

pub returns-in-Gate : goal.returns-in-Gate
returns-in-Gate c =
    let as_gate = driven-as c.args.net.now c.args.var (GateVariable c.in-Gate.kind) c.keeps_shape.ensures.circuit c.keeps_shape.ensures.whole c.requires.var c.in-Gate.ensures in
    let driven = driven-at (network_of c.args.net.now) c.args.var c.in-Gate.kind (first_wire c.args.net.now c.args.var) (length (gate_at c.args.net.now c.args.var).sources) c.wires_in-first.result.0 c.wires_in-first.result.1 as_gate.1 c.wires_in-first.ensures.first c.wires_in-first.ensures.pins in
    choice-gate (network_of c.args.net.now) c.args.free.now c.args.var c.in-Gate.kind c.wires_in-first.result.0 c.wires_in-first.result.1 c.requires.marks c.wires_in-first.ensures.inside driven c.first_feeding.result c.first_feeding.ensures

pub returns-in-Wire : goal.returns-in-Wire
returns-in-Wire c =
    let as_wire = driven-as c.args.net.now c.args.var (WireVariable c.in-Wire.gate c.in-Wire.pin c.in-Wire.source) c.keeps_shape.ensures.circuit c.keeps_shape.ensures.whole c.requires.var c.in-Wire.ensures in
    choice-wire (network_of c.args.net.now) c.args.free.now c.args.var c.in-Wire.source c.requires.marks as_wire.1 as_wire.0 c.first_feeding-in-Wire.result c.first_feeding-in-Wire.ensures
