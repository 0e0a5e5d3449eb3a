-- The network of a circuit is wired: each wire comes from one node and goes into one gate.
use Rattle.std.proofs.Common.{◌≡◌, ◌≢◌, ℕ, zero, suc, ◌+◌, ◌-◌, ◌<◌, ◌≤◌, List, [], ◌∷◌, length, get_or, take, Some, slice_get, sym, ap, ◌∙◌, subst, arith, inl, inr}
use Rattle.std.specs.List.{sum_by}
use Rattle.std.proofs.lemmas.Bool.{cases_lt}
use Rattle.std.proofs.lemmas.List.{get_or_past}
use Rattle.std.proofs.lemmas.List.Sums.{sum_by-cons}
use Rattle.hz_core.specs.declared.kind.Kind.{Kind}
use Rattle.hz_core.specs.Netlist.{Gate, Netlist, IsCircuit, IsGateNumber, gate_at, variable_count}
use Rattle.hz_net.specs.Network.{Wire, wires_of, External, Function, Source, network_of, driver_at}
use Rattle.hz_net.specs.Variables.{variable_kinds, first_wire}
use Rattle.hz_net.specs.Reads.{IsWireInto, IsWired}
use Rattle.hz_net.specs.declared.variable.VarKind.TheVariants.{Wire as WireKind}
use Rattle.hz_net.proofs.Places.{no_gate, no_wire, pins_of, length-network_of, driver_at-input, driver_at-gate, driver_at-wire, driver_at-pin, wire_at-pin}
use Rattle.hz_net.proofs.Wires.{IsWireFrom, IsWireFrom-driver_at, IsWireFrom-node, variable_kinds-wire}

-- what drives a gate is its gate function, of the wires that its place gives it
pub record IsGateOf (netlist : Netlist) (gate : ℕ) (kind : Kind) (first pins : ℕ) : Type 0 where
  pub is_gate : IsGateNumber netlist gate
  pub same_kind : (gate_at netlist gate).kind ≡ kind
  pub first_is : first_wire netlist gate ≡ first
  pub pins_are : length (gate_at netlist gate).sources ≡ pins

same-function : (kind other : Kind) (first others pins more : ℕ) → Function kind first pins ≡ Function other others more → (kind ≡ other) × (first ≡ others) × (pins ≡ more)
same-function kind other first others pins more e = (cc, cc, cc)

-- where a pin stands among the pins of all gates
record IsPinPlace (gates : List Gate) (place : ℕ) : Type 0 where
  pub gate : ℕ
  pub pin : ℕ
  pub is_gate : gate < length gates
  pub is_pin : pin < pins_of (get_or gates gate no_gate)
  pub stands : place ≡ sum_by pins_of (take gate gates) + pin

later-gate : (gate : Gate) (gates : List Gate) (place : ℕ) → pins_of gate ≤ place → IsPinPlace gates (place - pins_of gate) → IsPinPlace (gate ∷ gates) place
later-gate gate gates place beyond at =
    let stands : place - pins_of gate ≡ sum_by pins_of (take at.gate gates) + at.pin = at.stands in
    let few : at.gate < length gates = at.is_gate in
    record {
      gate = suc at.gate;
      pin = at.pin;
      is_gate = omega (arith, few);
      is_pin = at.is_pin;
      stands = omega (arith, stands, beyond, sum_by-cons pins_of gate (take at.gate gates));
    }

-- each number below the number of pins is the place of a pin
pin-place : (gates : List Gate) (place : ℕ) → place < sum_by pins_of gates → IsPinPlace gates place
pin-place [] place few = absurd (omega (arith, few))
pin-place (gate ∷ gates) place few =
    elim (cases_lt place (pins_of gate)) [
      | inl here ↦ record { gate = zero; pin = place; is_gate = omega arith; is_pin = here; stands = omega arith }
      | inr beyond ↦ later-gate gate gates place beyond (pin-place gates (place - pins_of gate) (omega (arith, few, beyond, sum_by-cons pins_of gate gates)))
    ]

-- a wire stands at its pin, behind the first wire of its gate
pub record IsPlaced (netlist : Netlist) (var : ℕ) (wire : Wire) : Type 0 where
  pub is_gate : IsGateNumber netlist wire.gate
  pub is_pin : wire.pin < length (gate_at netlist wire.gate).sources
  pub stands : first_wire netlist wire.gate + wire.pin ≡ var

module _ (netlist : Netlist) (circuit : IsCircuit netlist) where
  -- the variable at a pin of a gate goes into the gate
  pub pin-into : (gate pin wire : ℕ) → IsGateNumber netlist gate → pin < length (gate_at netlist gate).sources → first_wire netlist gate + pin ≡ wire → IsWireInto (network_of netlist) gate wire
  pin-into gate pin wire is_gate few at = record {
    kind = (gate_at netlist gate).kind;
    first = first_wire netlist gate;
    pins = length (gate_at netlist gate).sources;
    driven = driver_at-gate netlist gate circuit is_gate;
    above = omega (arith, at);
    below = omega (arith, at, few);
  }

  pub is_gate_of : (gate : ℕ) (kind : Kind) (first pins : ℕ) → driver_at (network_of netlist) gate ≡ Function kind first pins → IsGateOf netlist gate kind first pins
  is_gate_of gate kind first pins drives =
      elim (cases_lt gate netlist.inputs) [
        | inl input ↦ (let e = driver_at-input netlist gate circuit input in cc)
        | inr beyond ↦ elim (cases_lt gate (length netlist.names)) [
          | inl node ↦ (
              let same = same-function _ _ _ _ _ _ (sym (driver_at-gate netlist gate circuit (beyond, node)) ∙ drives) in
              record { is_gate = (beyond, node); same_kind = same.0; first_is = same.1; pins_are = same.2 }
              )
          | inr above ↦ elim (cases_lt gate (variable_count netlist)) [
            | inl below ↦ (let e = driver_at-wire netlist gate circuit above below in cc)
            | inr out ↦ (let e : driver_at (network_of netlist) gate ≡ External 0 = get_or_past (network_of netlist) gate (External 0) (omega (arith, out, length-network_of netlist circuit)) in cc)
          ]
        ]
      ]

  node-source : (node source : ℕ) → node < length netlist.names → driver_at (network_of netlist) node ≢ Source source
  node-source node source below e =
      elim (cases_lt node netlist.inputs) [
        | inl input ↦ (let other = driver_at-input netlist node circuit input in cc)
        | inr beyond ↦ (let other = driver_at-gate netlist node circuit (beyond, below) in cc)
      ]

  source-node : (wire source : ℕ) → driver_at (network_of netlist) wire ≡ Source source → source < length netlist.names
  source-node wire source drives = IsWireFrom-node netlist wire source circuit (IsWireFrom-driver_at netlist wire source circuit drives)

  -- the pin of a gate that a wire goes into
  pin-of : (gate wire : ℕ) → (into : IsWireInto (network_of netlist) gate wire) → IsGateNumber netlist gate × (wire - into.first < length (gate_at netlist gate).sources) × (first_wire netlist gate + (wire - into.first) ≡ wire)
  pin-of gate wire into =
      let is = is_gate_of gate into.kind into.first into.pins into.driven in
      (is.is_gate, omega (arith, is.pins_are, into.above, into.below), omega (arith, is.first_is, into.above))

  -- the gate that a wire names
  pub gate-named : (gate wire : ℕ) → IsWireInto (network_of netlist) gate wire → (get_or (wires_of netlist) (wire - length netlist.names) no_wire).gate ≡ gate
  gate-named gate wire into =
      let pin = pin-of gate wire into in
      ap (λ (n : ℕ). (get_or (wires_of netlist) (n - length netlist.names) no_wire).gate) (sym pin.2)
      ∙ ap (λ (w : Wire). w.gate) (wire_at-pin netlist gate (wire - into.first) circuit pin.0 pin.1)

  pin-source : (gate wire : ℕ) → IsWireInto (network_of netlist) gate wire → (source : ℕ) × (driver_at (network_of netlist) wire ≡ Source source)
  pin-source gate wire into =
      let pin = pin-of gate wire into in (
        get_or (gate_at netlist gate).sources (wire - into.first) 0,
        ap (driver_at (network_of netlist)) (sym pin.2) ∙ driver_at-pin netlist gate (wire - into.first) circuit pin.0 pin.1,
      )

  -- each wire goes into a gate
  pub wire-into : (wire : ℕ) → length netlist.names ≤ wire → wire < variable_count netlist → (gate : ℕ) × IsWireInto (network_of netlist) gate wire
  wire-into wire above below =
      let nodes = length netlist.names in
      let at = pin-place netlist.gates (wire - nodes) (omega (arith, above, below)) in
      let few : at.gate < length netlist.gates = at.is_gate in
      let gate = netlist.inputs + at.gate in
      let is_gate : IsGateNumber netlist gate = (omega arith, omega (arith, few, circuit.nodes)) in
      let same : gate - netlist.inputs ≡ at.gate = omega arith in
      let few_pins : at.pin < length (gate_at netlist gate).sources = subst (λ (k : ℕ). at.pin < pins_of (get_or netlist.gates k no_gate)) (sym same) at.is_pin in
      let sum : sum_by pins_of (take (gate - netlist.inputs) netlist.gates) ≡ sum_by pins_of (take at.gate netlist.gates) =
      ap (λ (k : ℕ). sum_by pins_of (take k netlist.gates)) same in
      let stands : wire - nodes ≡ sum_by pins_of (take at.gate netlist.gates) + at.pin = at.stands in
      (gate, pin-into gate at.pin wire is_gate few_pins (omega (arith, stands, sum, above)))

  -- and it stands there at its pin
  pub wire-place : (wire : ℕ) → length netlist.names ≤ wire → wire < variable_count netlist → IsPlaced netlist wire (get_or (wires_of netlist) (wire - length netlist.names) no_wire)
  wire-place wire above below =
      let into = wire-into wire above below in
      let pin = pin-of into.0 wire into.1 in
      let same = ap (λ (n : ℕ). get_or (wires_of netlist) (n - length netlist.names) no_wire) (sym pin.2) ∙ wire_at-pin netlist into.0 (wire - into.1.first) circuit pin.0 pin.1 in
      subst (IsPlaced netlist wire) (sym same) (record { is_gate = pin.0; is_pin = pin.1; stands = pin.2 })

  -- and into the gate that it names
  pub named-into : (wire gate pin source : ℕ) → length netlist.names ≤ wire → wire < variable_count netlist → slice_get (variable_kinds netlist) wire ≡ Some (WireKind gate pin source) → IsWireInto (network_of netlist) gate wire
  named-into wire gate pin source above below is =
      let into = wire-into wire above below in
      let other = variable_kinds-wire netlist wire circuit above below in
      let named : (get_or (wires_of netlist) (wire - length netlist.names) no_wire).gate ≡ gate = cc in
      subst (λ (g : ℕ). IsWireInto (network_of netlist) g wire) (sym (gate-named into.0 wire into.1) ∙ named) into.1

  driven-into : (wire source : ℕ) → driver_at (network_of netlist) wire ≡ Source source → (gate : ℕ) × IsWireInto (network_of netlist) gate wire
  driven-into wire source drives =
      let from : IsWireFrom netlist wire source = IsWireFrom-driver_at netlist wire source circuit drives in
      wire-into wire from.above from.below

  pub wired-network_of : IsWired (network_of netlist)
  wired-network_of = record {
    node = λ wire source drives other. node-source source other (source-node wire source drives);
    node_inside = λ wire source drives. let below = source-node wire source drives in omega (arith, length-network_of netlist circuit);
    gate = driven-into;
    source = pin-source;
    own = λ gate other wire into others. sym (gate-named gate wire into) ∙ gate-named other wire others;
  }
