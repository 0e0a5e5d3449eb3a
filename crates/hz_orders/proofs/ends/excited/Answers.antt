-- By what the variable is.
use Rattle.std.proofs.Common.{arith, ◌∙◌, sym, ap, subst, length, IsTrue}
use Rattle.hz_orders.proofs.Words.{takes, gate_at, network_of, first_wire, Input, length-part}
use Rattle.hz_net.specs.Network.{driver_value3}
use Rattle.hz_net.specs.declared.variable.VarKind.TheVariants.{Gate as GateVariable, Wire as WireVariable}
use Rattle.hz_free.proofs.NextWord.{driven-as, driven-at}
use Rattle.hz_orders.proofs.ends.excited.Goals as goal

pub bounds-change-number : goal.bounds-change-number
bounds-change-number c =
    let as_input = driven-as c.args.change.now.net.now c.args.var (Input c.in-Input.number) c.requires.change.circuit c.requires.change.whole c.requires.var c.in-Input.ensures in
    omega (arith, as_input.1, c.requires.change.input)

pub wires_in-wire-requires : goal.wires_in-wire-requires
wires_in-wire-requires c =
    (driven-as c.args.change.now.net.now c.args.var (GateVariable c.in-Gate.kind) c.requires.change.circuit c.requires.change.whole c.requires.var c.in-Gate.ensures).0

pub eval3-requires : goal.eval3-requires
eval3-requires c =
    let as_gate = driven-as c.args.change.now.net.now c.args.var (GateVariable c.in-Gate.kind) c.requires.change.circuit c.requires.change.whole c.requires.var c.in-Gate.ensures in
    let long = length-part c.args.values.now c.wires_in-wire.result.0 c.wires_in-wire.result.1 (λ k few. omega (arith, few, c.wires_in-wire.ensures.inside, c.requires.values)) in
    subst (λ n. IsTrue (takes c.in-Gate.kind n)) (sym (long ∙ c.wires_in-wire.ensures.pins)) as_gate.3

pub bounds-values-source : goal.bounds-values-source
bounds-values-source c =
    let as_wire = driven-as c.args.change.now.net.now c.args.var (WireVariable c.in-Wire.gate c.in-Wire.pin c.in-Wire.source) c.requires.change.circuit c.requires.change.whole c.requires.var c.in-Wire.ensures in
    omega (arith, as_wire.1, c.requires.values)

pub returns-in-Input : goal.returns-in-Input
returns-in-Input c =
    let as_input = driven-as c.args.change.now.net.now c.args.var (Input c.in-Input.number) c.requires.change.circuit c.requires.change.whole c.requires.var c.in-Input.ensures in
    c.of.ensures ∙ ap (driver_value3 c.args.change.now.input.now c.args.values.now) (sym as_input.0)

pub returns-in-Gate : goal.returns-in-Gate
returns-in-Gate c =
    let as_gate = driven-as c.args.change.now.net.now c.args.var (GateVariable c.in-Gate.kind) c.requires.change.circuit c.requires.change.whole c.requires.var c.in-Gate.ensures in
    let driven = driven-at (network_of c.args.change.now.net.now) c.args.var c.in-Gate.kind (first_wire c.args.change.now.net.now c.args.var) (length (gate_at c.args.change.now.net.now c.args.var).sources) c.wires_in-wire.result.0 c.wires_in-wire.result.1 as_gate.1 c.wires_in-wire.ensures.first c.wires_in-wire.ensures.pins in
    c.eval3.ensures.value ∙ ap (driver_value3 c.args.change.now.input.now c.args.values.now) (sym driven)

pub returns-in-Wire : goal.returns-in-Wire
returns-in-Wire c =
    let as_wire = driven-as c.args.change.now.net.now c.args.var (WireVariable c.in-Wire.gate c.in-Wire.pin c.in-Wire.source) c.requires.change.circuit c.requires.change.whole c.requires.var c.in-Wire.ensures in
    ap (driver_value3 c.args.change.now.input.now c.args.values.now) (sym as_wire.0)
