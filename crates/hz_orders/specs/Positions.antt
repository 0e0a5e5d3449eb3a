-- The positions of a gate's pins, each of which says of each pin how often its word has advanced, and the ways from one to another.
use Rattle.std.specs.Prelude.{◌≡◌, ◌≢◌, ℕ, zero, suc, ◌+◌, ◌≤◌, Bool, List, [], ◌∷◌, ◌++◌, length, map, All}
use Rattle.std.specs.List.{slice_index_or}
use Rattle.hz_core.specs.declared.kind.Kind.{Kind}
use Rattle.hz_core.specs.Gate.{gate_value}
use Rattle.hz_word.specs.declared.count.Count.{Count}
use Rattle.hz_word.specs.declared.count.Count.TheVariants.{Exact, Many}
use Rattle.hz_word.specs.declared.word.Word.{Word}
use Rattle.hz_word.specs.Walk.{change_between}
use Rattle.hz_word.specs.Capped.{IsAtMost}
use Rattle.hz_word.specs.Pairs.{last_after}
use Rattle.hz_orders.specs.declared.order.Order.{Order}
use Rattle.hz_orders.specs.Parts.{IsKeptAt}

-- a number of changes is exact
abbrev pub IsExactCount : Count → Type 0
IsExactCount (Exact changes) = Unit {0}
IsExactCount Many = ⊥

-- the numbers of changes of pins are exact
abbrev pub AreExact : List Word → Type 0
AreExact [] = Unit {0}
AreExact (pin ∷ pins) = IsExactCount pin.changes × AreExact pins

-- the number, if it is exact
abbrev pub exact_count : Count → ℕ
exact_count (Exact changes) = changes
exact_count Many = 0

-- a position of pins: none has advanced more often than its word changes
abbrev pub IsPosition : List Word → List ℕ → Type 0
IsPosition [] [] = Unit {0}
IsPosition [] (times ∷ position) = ⊥
IsPosition (pin ∷ pins) [] = ⊥
IsPosition (pin ∷ pins) (times ∷ position) =
    IsAtMost (Exact times) pin.changes × IsPosition pins position

-- lists, each behind each number below another one, by this number
abbrev pub behind_numbers : ℕ → List (List ℕ) → List (List ℕ)
behind_numbers zero tails = []
behind_numbers (suc below) tails =
    behind_numbers below tails ++ map (λ (tail : List ℕ). below ∷ tail) tails

-- all positions of pins whose numbers of changes are exact, by the first pin, then by the second, and so on
abbrev pub positions_of : List Word → List (List ℕ)
positions_of [] = [] ∷ []
positions_of (pin ∷ pins) = behind_numbers (suc (exact_count pin.changes)) (positions_of pins)

-- the most positions of which there is a table
abbrev pub most_places : ℕ
most_places = 512

-- pins have a table: their numbers of changes are exact, and there are not too many positions
pub record HaveTable (pins : List Word) : Type 0 where
  pub exact : AreExact pins
  pub few : length (positions_of pins) ≤ most_places

-- the position at which a walk begins
abbrev pub begin : List Word → List ℕ
begin pins = map (λ pin. 0) pins

-- the letters of the pins at a position
abbrev pub letters_at : List Word → List ℕ → List Bool
letters_at [] position = []
letters_at (pin ∷ pins) [] = []
letters_at (pin ∷ pins) (times ∷ position) =
    last_after pin.first times ∷ letters_at pins position

-- the value of a gate at a position
abbrev pub value_of : Kind → List Word → List ℕ → Bool
value_of kind pins position = gate_value kind (letters_at pins position)

-- from one position to another each pin advances once or stays
abbrev pub IsOnward : List ℕ → List ℕ → Type 0
IsOnward [] [] = Unit {0}
IsOnward [] (times ∷ after) = ⊥
IsOnward (times ∷ before) [] = ⊥
IsOnward (times ∷ before) (more ∷ after) =
    (times ≤ more) × (more ≤ times + 1) × IsOnward before after

-- a position of a gate's wires keeps the orders
abbrev pub KeepsAt : List Order → ℕ → List ℕ → Type 0
KeepsAt orders wire position =
    All (λ order. IsKeptAt wire (length position) (λ pin. slice_index_or position pin 0) order)
    orders

-- a move that keeps the orders leads from one position to another
pub record IsKeptMove (orders : List Order) (wire : ℕ) (pins : List Word)
    (before after : List ℕ) : Type 0 where
  pub onward : IsOnward before after
  pub moved : after ≢ before
  pub inside : IsPosition pins after
  pub kept : KeepsAt orders wire after

-- a way from a position: the positions after one move, after the next, and so on
abbrev pub IsWay : List Order → ℕ → List Word → List ℕ → List (List ℕ) → Type 0
IsWay orders wire pins position [] = Unit {0}
IsWay orders wire pins position (next ∷ way) =
    IsKeptMove orders wire pins position next × IsWay orders wire pins next way

-- how often a gate changes along a way
abbrev pub way_changes : Kind → List Word → List ℕ → List (List ℕ) → ℕ
way_changes kind pins position [] = 0
way_changes kind pins position (next ∷ way) =
    change_between (value_of kind pins position) (value_of kind pins next)
    + way_changes kind pins next way

-- A gate changes this often at most along the ways from a position, and along one it does.
pub record IsMostFrom (orders : List Order) (kind : Kind) (wire : ℕ) (pins : List Word)
    (position : List ℕ) (most : ℕ) : Type 0 where
  pub bound : (way : List (List ℕ)) → IsWay orders wire pins position way →
      way_changes kind pins position way ≤ most
  pub attained : (way : List (List ℕ)) × IsWay orders wire pins position way
      × (way_changes kind pins position way ≡ most)
