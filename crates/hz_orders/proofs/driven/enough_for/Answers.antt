-- By what the variable is.
use Rattle.std.proofs.Common.{arith, ◌+◌, ◌∙◌, sym, subst, List, length, IsTrue}
use Rattle.hz_orders.proofs.Words.{slice_range, takes, gate_at, Driver, network_of, first_wire, Input, length-part}
use Rattle.hz_net.specs.declared.variable.VarKind.TheVariants.{Gate as GateVariable, Wire as WireVariable}
use Rattle.hz_free.proofs.NextWord.{driven-as, driven-at}
use Rattle.hz_orders.proofs.Enough.{counted-part, enough-for, enough-input, enough-wire, enough-gate}
use Rattle.hz_orders.proofs.WithTables.{if-both, tabled-hold}
use Rattle.hz_orders.proofs.driven.enough_for.Goals as goal

pub bounds-telling-number : goal.bounds-telling-number
bounds-telling-number c =
    let as_input = driven-as c.args.telling.now.net.now c.args.var (Input c.in-Input.number) c.requires.telling.circuit c.requires.telling.whole c.requires.var c.in-Input.ensures in
    omega (arith, as_input.1, c.requires.telling.input)

pub wires_in-wire-requires : goal.wires_in-wire-requires
wires_in-wire-requires c =
    (driven-as c.args.telling.now.net.now c.args.var (GateVariable c.in-Gate.kind) c.requires.telling.circuit c.requires.telling.whole c.requires.var c.in-Gate.ensures).0

pub gate_changes-requires-clause-pins : goal.gate_changes-requires-clause-pins
gate_changes-requires-clause-pins c =
    let as_gate = driven-as c.args.telling.now.net.now c.args.var (GateVariable c.in-Gate.kind) c.requires.telling.circuit c.requires.telling.whole c.requires.var c.in-Gate.ensures in
    let long = length-part c.args.told.now c.wires_in-wire.result.0 c.wires_in-wire.result.1 (λ k few. omega (arith, few, c.wires_in-wire.ensures.inside, c.requires.told.long)) in
    subst (λ n. IsTrue (takes c.in-Gate.kind n)) (sym (long ∙ c.wires_in-wire.ensures.pins)) as_gate.3

pub gate_changes-requires-clause-counted : goal.gate_changes-requires-clause-counted
gate_changes-requires-clause-counted c =
    counted-part c.args.telling.now.cap c.wires_in-wire.result.0 c.wires_in-wire.result.1 c.args.told.now (omega (arith, c.wires_in-wire.ensures.inside, c.requires.told.long)) c.requires.told.counted

pub bounds-told-source : goal.bounds-told-source
bounds-told-source c =
    let as_wire = driven-as c.args.telling.now.net.now c.args.var (WireVariable c.in-Wire.gate c.in-Wire.pin c.in-Wire.source) c.requires.telling.circuit c.requires.telling.whole c.requires.var c.in-Wire.ensures in
    omega (arith, as_wire.1, c.requires.told.long)

pub returns-in-Input-clause-enough : goal.returns-in-Input-clause-enough
returns-in-Input-clause-enough c =
    let as_input = driven-as c.args.telling.now.net.now c.args.var (Input c.in-Input.number) c.requires.telling.circuit c.requires.telling.whole c.requires.var c.in-Input.ensures in
    enough-for c.args.telling.now c.args.told.now c.args.var c.input_changes.result (λ orders.
    enough-input orders (network_of c.args.telling.now.net.now) c.args.telling.now.input.now c.args.telling.now.start.now c.args.telling.now.cap c.args.told.now c.args.var c.in-Input.number c.input_changes.result as_input.0 c.input_changes.ensures.value)

pub returns-in-Gate-clause-enough : goal.returns-in-Gate-clause-enough
returns-in-Gate-clause-enough c =
    let telling = c.args.telling.now in
    let net : List Driver = network_of telling.net.now in
    let wire = c.wires_in-wire.result.0 in
    let pins = c.wires_in-wire.result.1 in
    let as_gate = driven-as telling.net.now c.args.var (GateVariable c.in-Gate.kind) c.requires.telling.circuit c.requires.telling.whole c.requires.var c.in-Gate.ensures in
    let driven = driven-at net c.args.var c.in-Gate.kind (first_wire telling.net.now c.args.var) (length (gate_at telling.net.now c.args.var).sources) wire pins as_gate.1 c.wires_in-wire.ensures.first c.wires_in-wire.ensures.pins in
    let long = length-part c.args.told.now wire pins (λ k few. omega (arith, few, c.wires_in-wire.ensures.inside, c.requires.told.long)) in
    if-both c.gate_changes.result _ _ _ (λ count bound tabled. record {
      all = enough-gate telling.orders.now net telling.input.now telling.start.now telling.cap c.args.told.now c.args.var c.in-Gate.kind wire pins count driven bound;
      tabled = λ orders are.
          enough-gate orders net telling.input.now telling.start.now telling.cap c.args.told.now c.args.var c.in-Gate.kind wire pins count driven
          (tabled orders (λ table. tabled-hold net c.args.told.now telling.orders.now orders c.args.var c.in-Gate.kind wire pins (length (slice_range c.args.told.now wire (wire + pins))) are driven long table));
    })
    c.gate_changes.ensures.bound c.gate_changes.ensures.tabled

pub returns-in-Wire-clause-enough : goal.returns-in-Wire-clause-enough
returns-in-Wire-clause-enough c =
    let as_wire = driven-as c.args.telling.now.net.now c.args.var (WireVariable c.in-Wire.gate c.in-Wire.pin c.in-Wire.source) c.requires.telling.circuit c.requires.telling.whole c.requires.var c.in-Wire.ensures in
    enough-for c.args.telling.now c.args.told.now c.args.var _ (λ orders.
    enough-wire orders (network_of c.args.telling.now.net.now) c.args.telling.now.input.now c.args.telling.now.start.now c.args.telling.now.cap c.args.told.now c.args.var c.in-Wire.source as_wire.0)

pub returns-in-Wire-clause-counted : goal.returns-in-Wire-clause-counted
returns-in-Wire-clause-counted c =
    let as_wire = driven-as c.args.telling.now.net.now c.args.var (WireVariable c.in-Wire.gate c.in-Wire.pin c.in-Wire.source) c.requires.telling.circuit c.requires.telling.whole c.requires.var c.in-Wire.ensures in
    c.requires.told.counted c.in-Wire.source _ (omega (arith, as_wire.1, c.requires.told.long))
