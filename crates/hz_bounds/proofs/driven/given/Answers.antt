-- By what the variable is.
use Rattle.std.proofs.Common.{arith, ◌∙◌, ◌+◌, sym, subst, length, IsTrue, slice_range}
use Rattle.hz_bounds.proofs.Words.{takes, network_of, length-part}
use Rattle.hz_core.specs.Netlist.{gate_at}
use Rattle.hz_net.specs.Variables.{first_wire}
use Rattle.hz_net.specs.declared.variable.VarKind.TheVariants.{Input, Gate as GateVariable, Wire as WireVariable}
use Rattle.hz_free.proofs.NextWord.{driven-as, driven-at}
use Rattle.hz_bounds.proofs.Given.{counted-fold, counted-part, gives-input, gives-wire, gives-gate}
use Rattle.hz_bounds.proofs.driven.given.Goals as goal

pub bounds-telling-number : goal.bounds-telling-number
bounds-telling-number c =
    let as_input = driven-as c.args.telling.now.net.now c.args.var (Input c.in-Input.number) c.requires.telling.circuit c.requires.telling.whole c.requires.var c.in-Input.ensures in
    omega (arith, as_input.1, c.requires.telling.input)

pub wires_in-first-requires : goal.wires_in-first-requires
wires_in-first-requires c =
    (driven-as c.args.telling.now.net.now c.args.var (GateVariable c.in-Gate.kind) c.requires.telling.circuit c.requires.telling.whole c.requires.var c.in-Gate.ensures).0

pub fold-requires-clause-pins : goal.fold-requires-clause-pins
fold-requires-clause-pins c =
    let as_gate = driven-as c.args.telling.now.net.now c.args.var (GateVariable c.in-Gate.kind) c.requires.telling.circuit c.requires.telling.whole c.requires.var c.in-Gate.ensures in
    let long = length-part c.args.told.now c.wires_in-first.result.0 c.wires_in-first.result.1 (λ k few. omega (arith, few, c.wires_in-first.ensures.inside, c.requires.told.long)) in
    subst (λ n. IsTrue (takes c.in-Gate.kind n)) (sym (long ∙ c.wires_in-first.ensures.pins)) as_gate.3

pub bounds-told-source : goal.bounds-told-source
bounds-told-source c =
    let as_wire = driven-as c.args.telling.now.net.now c.args.var (WireVariable c.in-Wire.gate c.in-Wire.pin c.in-Wire.source) c.requires.telling.circuit c.requires.telling.whole c.requires.var c.in-Wire.ensures in
    omega (arith, as_wire.1, c.requires.told.long)

pub returns-in-Input-clause-gives : goal.returns-in-Input-clause-gives
returns-in-Input-clause-gives c =
    let as_input = driven-as c.args.telling.now.net.now c.args.var (Input c.in-Input.number) c.requires.telling.circuit c.requires.telling.whole c.requires.var c.in-Input.ensures in
    gives-input (network_of c.args.telling.now.net.now) c.args.telling.now.input.now c.args.telling.now.start.now c.args.telling.now.cap c.args.told.now c.args.var c.in-Input.number c.input_word.result as_input.0 c.input_word.ensures.value

pub returns-in-Gate-clause-gives : goal.returns-in-Gate-clause-gives
returns-in-Gate-clause-gives c =
    let as_gate = driven-as c.args.telling.now.net.now c.args.var (GateVariable c.in-Gate.kind) c.requires.telling.circuit c.requires.telling.whole c.requires.var c.in-Gate.ensures in
    let driven = driven-at (network_of c.args.telling.now.net.now) c.args.var c.in-Gate.kind (first_wire c.args.telling.now.net.now c.args.var) (length (gate_at c.args.telling.now.net.now c.args.var).sources) c.wires_in-first.result.0 c.wires_in-first.result.1 as_gate.1 c.wires_in-first.ensures.first c.wires_in-first.ensures.pins in
    gives-gate (network_of c.args.telling.now.net.now) c.args.telling.now.input.now c.args.telling.now.start.now c.args.telling.now.cap c.args.told.now c.args.var c.in-Gate.kind c.wires_in-first.result.0 c.wires_in-first.result.1 c.fold.result driven c.fold.ensures

pub returns-in-Gate-clause-counted : goal.returns-in-Gate-clause-counted
returns-in-Gate-clause-counted c =
    counted-fold c.in-Gate.kind (slice_range c.args.told.now c.wires_in-first.result.0 (c.wires_in-first.result.0 + c.wires_in-first.result.1)) c.args.telling.now.cap c.fold.result
    (counted-part c.args.telling.now.cap c.wires_in-first.result.0 c.wires_in-first.result.1 c.args.told.now (omega (arith, c.wires_in-first.ensures.inside, c.requires.told.long)) c.requires.told.counted)
    c.fold.ensures

pub returns-in-Wire-clause-gives : goal.returns-in-Wire-clause-gives
returns-in-Wire-clause-gives c =
    let as_wire = driven-as c.args.telling.now.net.now c.args.var (WireVariable c.in-Wire.gate c.in-Wire.pin c.in-Wire.source) c.requires.telling.circuit c.requires.telling.whole c.requires.var c.in-Wire.ensures in
    gives-wire (network_of c.args.telling.now.net.now) c.args.telling.now.input.now c.args.telling.now.start.now c.args.telling.now.cap c.args.told.now c.args.var c.in-Wire.source as_wire.0
