-- Wires by the node that drives them; what a list has at a gate's wires.
use Rattle.std.proofs.Common.{◌≡◌, ◌∙◌, sym, ap, suc, zero, ℕ, ◌+◌, ◌-◌, ◌<◌, ◌≤◌, true, false, List, [], ◌∷◌, length, Some, get_or, arith, subst, slice_get, inl, inr}
use Rattle.std.specs.Prelude.{Contains, nat_eq}
use Rattle.std.proofs.lemmas.Bool.{cases_lt, cases_eq, eq-eqb}
use Rattle.std.proofs.lemmas.Bool.Decides.{nat_tests}
use Rattle.std.proofs.lemmas.List.{get_or_past}
use Rattle.hz_core.specs.Netlist.{Netlist, IsCircuit, IsGateNumber, gate_at, variable_count}
use Rattle.hz_net.specs.Network.{Wire, wires_of, External, Source, network_of, driver_at}
use Rattle.hz_net.specs.Variables.{variable_kinds, first_wire, at_wires, readers_from, fan_out_of}
use Rattle.hz_net.specs.declared.variable.VarKind.TheVariants.{Wire as WireKind}
use Rattle.hz_net.specs.Entries.{wire_entry}
use Rattle.hz_net.proofs.Places.{no_wire, All-wires_of, length-network_of, length-wires_of, driver_at-input, driver_at-gate, driver_at-wire, at-entries_of-wire, variable_kinds-entry, first_wire-bound}
use Rattle.hz_lists.proofs.PartLemmas.{length-part, at-part}

-- a variable is a wire from a node
pub record IsWireFrom (netlist : Netlist) (wire node : ℕ) : Type 0 where
  pub above : length netlist.names ≤ wire
  pub below : wire < variable_count netlist
  pub source : (get_or (wires_of netlist) (wire - length netlist.names) no_wire).source ≡ node

-- a wire comes from a node
pub IsWireFrom-node : (netlist : Netlist) (wire node : ℕ) → IsCircuit netlist → IsWireFrom netlist wire node → node < length netlist.names
IsWireFrom-node netlist wire node circuit from =
    let below = from.below in
    let above = from.above in
    subst (λ (n : ℕ). n < length netlist.names) from.source
    (All-wires_of netlist circuit (wire - length netlist.names) no_wire (omega (arith, length-wires_of netlist)))

-- what a node drives is a wire
pub IsWireFrom-driver_at : (netlist : Netlist) (wire node : ℕ) → IsCircuit netlist → driver_at (network_of netlist) wire ≡ Source node → IsWireFrom netlist wire node
IsWireFrom-driver_at netlist wire node circuit driven =
    elim (cases_lt wire netlist.inputs) [
      | inl input ↦ let e = driver_at-input netlist wire circuit input in cc
      | inr beyond ↦ elim (cases_lt wire (length netlist.names)) [
        | inl gate ↦ let e = driver_at-gate netlist wire circuit (beyond, gate) in cc
        | inr above ↦ elim (cases_lt wire (variable_count netlist)) [
          | inl below ↦ record {
            above = above;
            below = below;
            source = let e = driver_at-wire netlist wire circuit above below in cc;
          }
          | inr out ↦ let e : driver_at (network_of netlist) wire ≡ External 0 = get_or_past (network_of netlist) wire (External 0) (omega (arith, out, length-network_of netlist circuit)) in cc
        ]
      ]
    ]

-- and a wire is driven by its node
pub driver_at-IsWireFrom : (netlist : Netlist) (wire node : ℕ) → IsCircuit netlist → IsWireFrom netlist wire node → driver_at (network_of netlist) wire ≡ Source node
driver_at-IsWireFrom netlist wire node circuit from =
    driver_at-wire netlist wire circuit from.above from.below ∙ ap Source from.source

-- a wire from the node is among those that it reads
Contains-readers_from : (first : ℕ) (wires : List Wire) (node k : ℕ) → k < length wires → (get_or wires k no_wire).source ≡ node → Contains (readers_from first wires node) (first + k)
Contains-readers_from first [] node k inside source = absurd (omega (arith, inside))
Contains-readers_from first (wire ∷ wires) node zero inside source =
    let test : nat_eq wire.source node ≡ true = eq-eqb wire.source node source in
    rw test (0, omega arith, omega arith)
Contains-readers_from first (wire ∷ wires) node (suc k) inside source =
    let next : suc first + k ≡ first + suc k = omega arith in
    let rest : Contains (readers_from (suc first) wires node) (first + suc k) =
    subst (Contains (readers_from (suc first) wires node)) next (Contains-readers_from (suc first) wires node k (omega (arith, inside)) source) in
    elim (cases_eq wire.source node) [
      | inl same ↦ (
          let test : nat_eq wire.source node ≡ true = eq-eqb wire.source node same in
          rw test (suc rest.0, (let within : rest.0 < length (readers_from (suc first) wires node) = rest.1 in omega arith), rest.2)
          )
      | inr other ↦ (
          let test : nat_eq wire.source node ≡ false = grind (arith, nat_tests) in
          rw test rest
          )
    ]

-- a place among wires with a variable, from a node
abbrev IsPlaceFrom : ℕ → List Wire → ℕ → ℕ → Type 0
IsPlaceFrom first wires node var =
    (k : ℕ) × (k < length wires) × (var ≡ first + k) × ((get_or wires k no_wire).source ≡ node)

IsPlaceFrom-later : (first : ℕ) (wire : Wire) (wires : List Wire) (node var : ℕ) → IsPlaceFrom (suc first) wires node var → IsPlaceFrom first (wire ∷ wires) node var
IsPlaceFrom-later first wire wires node var h =
    let inside : h.0 < length wires = h.1 in
    let place : var ≡ suc first + h.0 = h.2 in
    (suc h.0, omega arith, omega arith, h.3)

IsPlaceFrom-here : (first : ℕ) (wire : Wire) (wires : List Wire) (node var : ℕ) → wire.source ≡ node → (Contains (readers_from (suc first) wires node) var → IsPlaceFrom (suc first) wires node var) → Contains (first ∷ readers_from (suc first) wires node) var → IsPlaceFrom first (wire ∷ wires) node var
IsPlaceFrom-here first wire wires node var same rest (zero, inside, e) = (0, omega arith, omega (arith, e), same)
IsPlaceFrom-here first wire wires node var same rest (suc k, inside, e) =
    IsPlaceFrom-later first wire wires node var (rest (k, omega (arith, inside), e))

-- what it reads is a wire from the node
readers_from-wire : (first : ℕ) (wires : List Wire) (node var : ℕ) → Contains (readers_from first wires node) var → IsPlaceFrom first wires node var
readers_from-wire first [] node var there = absurd (omega (arith, there.1))
readers_from-wire first (wire ∷ wires) node var there =
    elim (cases_eq wire.source node) [
      | inl same ↦ (
          let test : nat_eq wire.source node ≡ true = eq-eqb wire.source node same in
          IsPlaceFrom-here first wire wires node var same (readers_from-wire (suc first) wires node var) (rw test at there)
          )
      | inr other ↦ (
          let test : nat_eq wire.source node ≡ false = grind (arith, nat_tests) in
          IsPlaceFrom-later first wire wires node var (readers_from-wire (suc first) wires node var (rw test at there))
          )
    ]

-- the fan-out of a node has the wires from it
pub Contains-fan_out_of : (netlist : Netlist) (wire node : ℕ) → IsWireFrom netlist wire node → Contains (fan_out_of netlist node) wire
Contains-fan_out_of netlist wire node from =
    let nodes = length netlist.names in
    let below = from.below in
    let above = from.above in
    let same : nodes + (wire - nodes) ≡ wire = omega arith in
    subst (Contains (fan_out_of netlist node)) same
    (Contains-readers_from nodes (wires_of netlist) node (wire - nodes) (omega (arith, length-wires_of netlist)) from.source)

-- and no other
pub IsWireFrom-fan_out_of : (netlist : Netlist) (wire node : ℕ) → Contains (fan_out_of netlist node) wire → IsWireFrom netlist wire node
IsWireFrom-fan_out_of netlist wire node there =
    let nodes = length netlist.names in
    let h = readers_from-wire nodes (wires_of netlist) node wire there in
    let inside : h.0 < length (wires_of netlist) = h.1 in
    let place : wire ≡ nodes + h.0 = h.2 in
    let k : wire - nodes ≡ h.0 = omega arith in
    record {
      above = omega arith;
      below = omega (arith, length-wires_of netlist);
      source = ap (λ n. (get_or (wires_of netlist) n no_wire).source) k ∙ h.3;
    }

-- what a variable is, is told by its wire
pub variable_kinds-wire : (netlist : Netlist) (var : ℕ) → IsCircuit netlist → length netlist.names ≤ var → var < variable_count netlist → slice_get (variable_kinds netlist) var ≡ Some (WireKind (get_or (wires_of netlist) (var - length netlist.names) no_wire).gate (get_or (wires_of netlist) (var - length netlist.names) no_wire).pin (get_or (wires_of netlist) (var - length netlist.names) no_wire).source)
variable_kinds-wire netlist var circuit above below =
    let entry = wire_entry (get_or (wires_of netlist) (var - length netlist.names) no_wire) in
    variable_kinds-entry netlist var entry circuit below (sym (at-entries_of-wire netlist var entry circuit above below))

-- a gate's wires have one element for each pin
pub length-at_wires :
    {X : Type 0} (netlist : Netlist) (gate : ℕ) (list : List X) → IsCircuit netlist → IsGateNumber netlist gate →
    length list ≡ length (network_of netlist) → length (at_wires netlist gate list) ≡ length (gate_at netlist gate).sources
length-at_wires netlist gate list circuit is_gate long =
    length-part list (first_wire netlist gate) (length (gate_at netlist gate).sources)
    (λ k few. omega (arith, few, long, length-network_of netlist circuit, first_wire-bound netlist gate circuit is_gate))

-- it stands as many variables on as its pin says
pub get_or-at_wires :
    {X : Type 0} (netlist : Netlist) (gate : ℕ) (list : List X) (pin : ℕ) (none : X) → pin < length (gate_at netlist gate).sources →
    get_or (at_wires netlist gate list) pin none ≡ get_or list (first_wire netlist gate + pin) none
get_or-at_wires netlist gate list pin none few = at-part list (first_wire netlist gate) (length (gate_at netlist gate).sources) pin none few
