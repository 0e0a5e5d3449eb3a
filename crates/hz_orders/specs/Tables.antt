-- Tables that tell at each place of a list of positions how often a gate changes at most from this position on.
use Rattle.std.specs.Prelude.{◌≡◌, ◌⊎◌, ◌↔◌, ℕ, ◌+◌, ◌<◌, ◌≤◌, false, List, [], length, IsTrue}
use Rattle.std.specs.List.{slice_index_or}
use Rattle.hz_core.specs.Gate.{takes}
use Rattle.hz_word.specs.Walk.{change_between}
use Rattle.hz_orders.specs.Parts.{IsKeptAt}
use Rattle.hz_orders.specs.Positions.{HaveTable, IsMostFrom, IsOnward, KeepsAt, positions_of, value_of}
use Rattle.hz_orders.specs.declared.order.Order.{Order}
use Rattle.hz_orders.specs.declared.table.OrderedGate.{OrderedGate}
use Rattle.hz_orders.specs.declared.table.Place.{Place}
use Rattle.hz_orders.specs.declared.table.Table.{Table}

-- from one position to another each pin advances once or stays, pin by pin
pub record AdvancesEach (before after : List ℕ) : Type 0 where
  pub long : length after ≡ length before
  pub each : (pin : ℕ) → pin < length before →
      (slice_index_or before pin 0 ≤ slice_index_or after pin 0)
      × (slice_index_or after pin 0 ≤ slice_index_or before pin 0 + 1)

-- a list of orders says of each position of a gate's wires the same as all orders of the gate
abbrev pub AreEnoughOrders : OrderedGate → List Order → Type 0
AreEnoughOrders gate own =
    (position : List ℕ) → length position ≡ length gate.pins.now →
    KeepsAt own gate.wire position ↔ KeepsAt gate.orders.now gate.wire position

-- one wire of an order, or both, is no wire of a gate
abbrev pub IsOfOthers : OrderedGate → Order → Type 0
IsOfOthers gate order =
    (first second : ℕ) → first < length gate.pins.now → second < length gate.pins.now →
    gate.wire + first ≡ order.first → gate.wire + second ≡ order.second → ⊥

-- orders say of each position of a gate's wires the same as fewer of them and one more
abbrev pub AreWithOrder : OrderedGate → Order → List Order → List Order → Type 0
AreWithOrder gate order fewer all =
    (position : List ℕ) → length position ≡ length gate.pins.now →
    KeepsAt all gate.wire position
    ↔ (KeepsAt fewer gate.wire position
    × IsKeptAt gate.wire (length position) (λ pin. slice_index_or position pin 0) order)

-- what is told of a position: whether it keeps the orders of the gate, and the value of the gate
pub record IsPlaceAt (gate : OrderedGate) (position : List ℕ) (place : Place) : Type 0 where
  pub kept : IsTrue place.kept → KeepsAt gate.orders.now gate.wire position
  pub others : KeepsAt gate.orders.now gate.wire position → IsTrue place.kept
  pub value : place.value ≡ value_of gate.kind gate.pins.now position

-- of a position that is not there
abbrev pub no_place : Place
no_place = record { kept = false; value = false }

-- it is told of each position of a list
pub record ArePlaces (gate : OrderedGate) (positions : List (List ℕ)) (places : List Place)
    : Type 0 where
  pub long : length places ≡ length positions
  pub each : (number : ℕ) → number < length positions →
      IsPlaceAt gate (slice_index_or positions number []) (slice_index_or places number no_place)

-- a table has all positions of a gate that has one, and it is told of each
pub record IsTable (table : Table) : Type 0 where
  pub pins : IsTrue (takes table.gate.now.kind (length table.gate.now.pins.now))
  pub have : HaveTable table.gate.now.pins.now
  pub all : table.positions.now ≡ positions_of table.gate.now.pins.now
  pub places : ArePlaces table.gate.now table.positions.now table.places.now

-- a number at a place is the most from its position on, and less than the number of the places from it on
pub record IsRow (gate : OrderedGate) (positions : List (List ℕ)) (most : List ℕ) (place : ℕ)
    : Type 0 where
  pub is_most : IsMostFrom gate.orders.now gate.kind gate.wire gate.pins.now
      (slice_index_or positions place []) (slice_index_or most place 0)
  pub less : slice_index_or most place 0 + place < length positions

-- it is so at all places from one on
pub record AreMostBehind (gate : OrderedGate) (positions : List (List ℕ)) (most : List ℕ)
    (first : ℕ) : Type 0 where
  pub long : length most ≡ length positions
  pub each : (place : ℕ) → first ≤ place → place < length positions → IsRow gate positions most place

-- how often the gate changes if the first move leads from one place to another, and what is told there follows
abbrev pub changes_through : OrderedGate → List (List ℕ) → List ℕ → ℕ → ℕ → ℕ
changes_through gate positions most place later =
    slice_index_or most later 0
    + change_between (value_of gate.kind gate.pins.now (slice_index_or positions place []))
    (value_of gate.kind gate.pins.now (slice_index_or positions later []))

-- a move that keeps the orders leads from a place to a later one
pub record LeadsTo (gate : OrderedGate) (positions : List (List ℕ)) (place later : ℕ)
    : Type 0 where
  pub after : place < later
  pub onward : IsOnward (slice_index_or positions place []) (slice_index_or positions later [])
  pub kept : KeepsAt gate.orders.now gate.wire (slice_index_or positions later [])

-- a number is the best of the places before an end to which moves from a place lead
pub record IsBest (gate : OrderedGate) (positions : List (List ℕ)) (most : List ℕ)
    (place end best : ℕ) : Type 0 where
  pub bound : (later : ℕ) → later < end → LeadsTo gate positions place later →
      changes_through gate positions most place later ≤ best
  pub attained : (best ≡ 0)
      ⊎ ((later : ℕ) × (later < end) × LeadsTo gate positions place later
      × (changes_through gate positions most place later ≡ best))
  pub less : best + place < length positions
