-- The words of variables, by what a variable is.
use Rattle.std.proofs.Common.{◌≡◌, ◌∙◌, sym, ap, subst, refl, suc, ℕ, ◌+◌, ◌-◌, ◌<◌, ◌≤◌, List, [], ◌∷◌, length, Some, get_or, map, take, arith, slice_get, inl, inr, decimal, ◌++◌, append_assoc}
use Rattle.std.specs.Prelude.{sum_by}
use Rattle.std.proofs.lemmas.Bool.{cases_lt}
use Rattle.std.proofs.lemmas.Fmt.{decimal_digit}
use Rattle.std.proofs.lemmas.List.{get_or-map, get_or_append_left, get_or-append_right}
use Rattle.std.proofs.lemmas.List.Sums.{sum_by-cons}
use Rattle.std.proofs.lemmas.Option.{same_Some, get_or_from_slice_get}
use Rattle.hz_core.proofs.CircuitLemmas.{most_pins-bound}
use Rattle.hz_core.specs.Netlist.{Gate, Netlist, IsCircuit, IsWhole, IsGateNumber, gate_at, variable_count, node_name}
use Rattle.hz_net.specs.Network.{Wire, wires_of, network_of}
use Rattle.hz_net.specs.Variables.{variable_kinds, first_wire}
use Rattle.hz_net.specs.declared.variable.VarKind.{VarKind}
use Rattle.hz_net.specs.declared.variable.VarKind.TheVariants.{Input as InputKind, Gate as GateKind, Wire as WireKind}
use Rattle.hz_net.proofs.DrivenLemmas.{driven-as}
use Rattle.hz_net.proofs.Places.{no_gate, no_wire, pins_of, length-wires_of, length-network_of, wire_at-pin}
use Rattle.hz_net.proofs.Wires.{variable_kinds-wire}
use Rattle.hz_text.specs.VariableWord.{wire_word, variable_word}
use Rattle.hz_core.specs.Limits.{most_gate_pins}

-- the wire that a variable past the nodes is
abbrev pub wire_at : Netlist → ℕ → Wire
wire_at netlist var = get_or (wires_of netlist) (var - length netlist.names) no_wire

-- the word of a node is its name
pub variable_word-node : (netlist : Netlist) (var : ℕ) → var < length netlist.names → variable_word netlist var ≡ node_name netlist.names var
unfolding variable_word
variable_word-node netlist var below = get_or_append_left netlist.names (map (wire_word netlist) (wires_of netlist)) [] var below

-- the word of a wire
pub variable_word-wire : (netlist : Netlist) (var : ℕ) → length netlist.names ≤ var → var < variable_count netlist → variable_word netlist var ≡ wire_word netlist (wire_at netlist var)
unfolding variable_word
variable_word-wire netlist var above below =
    get_or-append_right netlist.names (map (wire_word netlist) (wires_of netlist)) (length netlist.names) var [] refl above
    ∙ get_or-map (wire_word netlist) (wires_of netlist) (var - length netlist.names) no_wire [] (omega (arith, length-wires_of netlist))

-- a place among the pins of gates: the gate and its pin
record IsPlaced (gates : List Gate) (place : ℕ) : Type 0 where
  gate : ℕ
  pin : ℕ
  there : gate < length gates
  within : pin < pins_of (get_or gates gate no_gate)
  is : sum_by pins_of (take gate gates) + pin ≡ place

placed : (gates : List Gate) (place : ℕ) → place < sum_by pins_of gates → IsPlaced gates place
placed [] place below = absurd (omega arith)
placed (gate ∷ gates) place below =
    elim (cases_lt place (pins_of gate)) [
      | inl here ↦ record { gate = 0; pin = place; there = omega arith; within = here; is = omega arith }
      | inr later ↦ (
          let rest = placed gates (place - pins_of gate) (omega (arith, sum_by-cons pins_of gate gates)) in
          record {
            gate = suc rest.gate;
            pin = rest.pin;
            there = omega (arith, rest.there);
            within = rest.within;
            is = omega (arith, rest.is, sum_by-cons pins_of gate (take rest.gate gates));
          }
          )
    ]

-- the variable is the wire into this pin of this gate
pub record IsPinOf (netlist : Netlist) (var gate pin : ℕ) : Type 0 where
  pub is_gate : IsGateNumber netlist gate
  pub within : pin < length (gate_at netlist gate).sources
  pub place : first_wire netlist gate + pin ≡ var

-- a wire names the pin that it goes into
named_pin : (netlist : Netlist) (var gate pin : ℕ) → IsCircuit netlist → IsPinOf netlist var gate pin → IsPinOf netlist var (wire_at netlist var).gate (wire_at netlist var).pin
named_pin netlist var gate pin circuit is =
    let wire : Wire = record { gate = gate; pin = pin; source = get_or (gate_at netlist gate).sources pin 0 } in
    let same : wire_at netlist var ≡ wire = ap (wire_at netlist) (sym is.place) ∙ wire_at-pin netlist gate pin circuit is.is_gate is.within in
    let P : Wire → Type 0 = λ wire. IsPinOf netlist var wire.gate wire.pin in
    subst P (sym same) is

-- a wire goes into the pin that it names
pub wire_is_pin : (netlist : Netlist) (var : ℕ) → IsCircuit netlist → length netlist.names ≤ var → var < variable_count netlist → IsPinOf netlist var (wire_at netlist var).gate (wire_at netlist var).pin
wire_is_pin netlist var circuit above below =
    let at = placed netlist.gates (var - length netlist.names) (omega (arith, below, above)) in
    let node = netlist.inputs + at.gate in
    let back : node - netlist.inputs ≡ at.gate = omega arith in
    let first : first_wire netlist node ≡ length netlist.names + sum_by pins_of (take at.gate netlist.gates) = ap (λ (n : ℕ). length netlist.names + sum_by pins_of (take n netlist.gates)) back in
    named_pin netlist var node at.pin circuit (record {
      is_gate = (omega arith, omega (arith, at.there, circuit.nodes));
      within = subst (λ (n : ℕ). at.pin < pins_of (get_or netlist.gates n no_gate)) (sym back) at.within;
      place = omega (arith, first, at.is, above);
    })

-- no gate has more than 256 pins
pub pin-bound : (netlist : Netlist) (var gate pin : ℕ) → IsCircuit netlist → IsPinOf netlist var gate pin → pin < most_gate_pins
pin-bound netlist var gate pin circuit is =
    let is_gate = is.is_gate in
    let few = circuit.gates (gate - netlist.inputs) no_gate (omega (arith, is_gate, circuit.nodes)) in
    omega (arith, is.within, few.pins, most_pins-bound (gate_at netlist gate).kind)

-- what is told of a variable: it is a node
abbrev pub IsNode : VarKind → Type 0
IsNode (InputKind number) = Unit {0}
IsNode (GateKind kind) = Unit {0}
IsNode (WireKind gate pin source) = ⊥

-- a variable that is told to be a node is one
pub node_is_below : (netlist : Netlist) (var : ℕ) (kind : VarKind) → IsCircuit netlist → var < length (network_of netlist) → slice_get (variable_kinds netlist) var ≡ Some kind → IsNode kind → var < length netlist.names
node_is_below netlist var kind circuit there told node =
    let below : var < variable_count netlist = omega (arith, there, length-network_of netlist circuit) in
    elim (cases_lt var (length netlist.names)) [
      | inl within ↦ within
      | inr above ↦ absurd (subst IsNode (same_Some _ _ (sym told ∙ variable_kinds-wire netlist var circuit above below)) node)
    ]

-- a variable that is told to be a wire is one, into this pin of this gate
pub wire_is_told :
    (netlist : Netlist) (var gate pin source : ℕ) → IsCircuit netlist → IsWhole netlist → var < length (network_of netlist) →
    slice_get (variable_kinds netlist) var ≡ Some (WireKind gate pin source) →
    (length netlist.names ≤ var) × ((wire_at netlist var).gate ≡ gate) × ((wire_at netlist var).pin ≡ pin)
wire_is_told netlist var gate pin source circuit whole there told =
    let below : var < variable_count netlist = omega (arith, there, length-network_of netlist circuit) in
    let above = (driven-as netlist var (WireKind gate pin source) circuit whole there told).above in
    let wire : WireKind gate pin source ≡ WireKind (wire_at netlist var).gate (wire_at netlist var).pin (wire_at netlist var).source =
    same_Some _ _ (sym told ∙ variable_kinds-wire netlist var circuit above below) in
    (above, cc, cc)

-- the word of a node, by its name
pub named_word : (netlist : Netlist) (var : ℕ) (name : List ℕ) → var < length netlist.names → slice_get netlist.names var ≡ Some name → variable_word netlist var ≡ name
named_word netlist var name below named = variable_word-node netlist var below ∙ get_or_from_slice_get netlist.names var name [] named

-- the word of a variable that is told to be a wire
pub told_word :
    (netlist : Netlist) (var gate pin source : ℕ) → IsCircuit netlist → IsWhole netlist → var < length (network_of netlist) →
    slice_get (variable_kinds netlist) var ≡ Some (WireKind gate pin source) →
    variable_word netlist var ≡ node_name netlist.names gate ++ 40 ∷ decimal (pin + 1) ++ 41 ∷ []
unfolding wire_word
told_word netlist var gate pin source circuit whole there told =
    let is = wire_is_told netlist var gate pin source circuit whole there told in
    let wire = wire_at netlist var in
    variable_word-wire netlist var is.0 (omega (arith, there, length-network_of netlist circuit))
    ∙ ap (λ (n : ℕ). node_name netlist.names n ++ 40 ∷ decimal (wire.pin + 1) ++ 41 ∷ []) is.1
    ∙ ap (λ (n : ℕ). node_name netlist.names gate ++ 40 ∷ decimal (n + 1) ++ 41 ∷ []) is.2

-- what is told of a wire: it goes into a gate, and no gate has more than 256 pins
pub told_bounds :
    (netlist : Netlist) (var gate pin source : ℕ) → IsCircuit netlist → IsWhole netlist → var < length (network_of netlist) →
    slice_get (variable_kinds netlist) var ≡ Some (WireKind gate pin source) → (gate < length netlist.names) × (pin < most_gate_pins)
told_bounds netlist var gate pin source circuit whole there told =
    let is = wire_is_told netlist var gate pin source circuit whole there told in
    let at = wire_is_pin netlist var circuit is.0 (omega (arith, there, length-network_of netlist circuit)) in
    let is_gate = at.is_gate in
    (omega (arith, is.1, is_gate), omega (arith, is.2, pin-bound netlist var _ _ circuit at))

-- a pin whose number has one digit
pub pin_of_digit : (name : List ℕ) (digit pin : ℕ) → pin < 9 → digit ≡ 49 + pin → name ++ (40 ∷ digit ∷ 41 ∷ []) ≡ name ++ 40 ∷ decimal (pin + 1) ++ 41 ∷ []
pin_of_digit name digit pin few is =
    let one : digit ∷ [] ≡ decimal (pin + 1) = ap (λ (n : ℕ). n ∷ []) (omega (arith, is)) ∙ sym (decimal_digit (pin + 1) (omega (arith, few))) in
    ap (λ (digits : List ℕ). name ++ (40 ∷ digits ++ 41 ∷ [])) one ∙ sym (append_assoc name (40 ∷ decimal (pin + 1)) (41 ∷ []))
