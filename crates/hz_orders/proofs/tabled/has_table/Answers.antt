-- By what the first wire of the order is.
use Rattle.std.proofs.Common.{◌<◌, length, arith}
use Rattle.hz_orders.proofs.Words.{network_of, External, Function, first_wire, gate_at, Input, is_gate_of}
use Rattle.hz_net.specs.declared.variable.VarKind.TheVariants.{Gate as GateVariable, Wire as WireVariable}
use Rattle.hz_net.proofs.DrivenLemmas.{driven-as}
use Rattle.hz_orders.proofs.WithTables.{none-outside, none-at-node, has-at, at-has}
use Rattle.hz_orders.proofs.tabled.has_table.Goals.{After-kind_of}
use Rattle.hz_orders.proofs.tabled.has_table.Goals as goal

inside : (c : After-kind_of) → c.args.order.first < length (network_of c.args.net.now)
inside c = omega (arith, c.if-order-len.false, c.len.ensures.len)

pub returns-then-order-len-clause-none : goal.returns-then-order-len-clause-none
returns-then-order-len-clause-none c =
    λ has. absurd (none-outside c.args.net.now c.keeps_shape.ensures.circuit c.args.told.now c.args.order (omega (arith, c.if-order-len.true, c.len.ensures.len)) has)

pub wires_in-wire-requires : goal.wires_in-wire-requires
wires_in-wire-requires c =
    let few = inside ((goal.at.wires_in-wire-requires c).After-kind_of) in
    let is = driven-as c.args.net.now c.args.order.first (WireVariable c.in-Wire.gate c.in-Wire.pin c.in-Wire.source) c.keeps_shape.ensures.circuit c.keeps_shape.ensures.whole few c.in-Wire.ensures in
    (is_gate_of c.args.net.now c.keeps_shape.ensures.circuit c.in-Wire.gate is.into.kind is.into.first is.into.pins is.into.driven).is_gate

pub returns-in-Wire-clause-some : goal.returns-in-Wire-clause-some
returns-in-Wire-clause-some c =
    let few = inside ((goal.at.returns-in-Wire-clause-some c).After-kind_of) in
    let is = driven-as c.args.net.now c.args.order.first (WireVariable c.in-Wire.gate c.in-Wire.pin c.in-Wire.source) c.keeps_shape.ensures.circuit c.keeps_shape.ensures.whole few c.in-Wire.ensures in
    λ yes'.
    has-at c.args.net.now c.keeps_shape.ensures.circuit c.args.told.now c.args.order c.in-Wire.gate c.wires_in-wire.result.0 c.wires_in-wire.result.1 is.into c.wires_in-wire.ensures.first c.wires_in-wire.ensures.pins
    (c.have_table.ensures.some yes')

pub returns-in-Wire-clause-none : goal.returns-in-Wire-clause-none
returns-in-Wire-clause-none c =
    let few = inside ((goal.at.returns-in-Wire-clause-none c).After-kind_of) in
    let is = driven-as c.args.net.now c.args.order.first (WireVariable c.in-Wire.gate c.in-Wire.pin c.in-Wire.source) c.keeps_shape.ensures.circuit c.keeps_shape.ensures.whole few c.in-Wire.ensures in
    λ has.
    c.have_table.ensures.none
    (at-has c.args.net.now c.keeps_shape.ensures.circuit c.args.told.now c.args.order c.in-Wire.gate c.wires_in-wire.result.0 c.wires_in-wire.result.1 is.into c.wires_in-wire.ensures.first c.wires_in-wire.ensures.pins has)

pub returns-in-Input-clause-none : goal.returns-in-Input-clause-none
returns-in-Input-clause-none c =
    let few = inside ((goal.at.returns-in-Input-clause-none c).After-kind_of) in
    let is = driven-as c.args.net.now c.args.order.first (Input c.in-Input.number) c.keeps_shape.ensures.circuit c.keeps_shape.ensures.whole few c.in-Input.ensures in
    λ has. absurd (none-at-node c.args.net.now c.keeps_shape.ensures.circuit c.args.told.now c.args.order (External c.in-Input.number) is.driven (λ source e. cc) has)

pub returns-in-Gate-clause-none : goal.returns-in-Gate-clause-none
returns-in-Gate-clause-none c =
    let few = inside ((goal.at.returns-in-Gate-clause-none c).After-kind_of) in
    let is = driven-as c.args.net.now c.args.order.first (GateVariable c.in-Gate.kind) c.keeps_shape.ensures.circuit c.keeps_shape.ensures.whole few c.in-Gate.ensures in
    λ has. absurd (none-at-node c.args.net.now c.keeps_shape.ensures.circuit c.args.told.now c.args.order (Function c.in-Gate.kind (first_wire c.args.net.now c.args.order.first) (length (gate_at c.args.net.now c.args.order.first).sources)) is.driven (λ source e. cc) has)
