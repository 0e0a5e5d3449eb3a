-- Parts of walks that keep the orders of a gate's wires, and how often the gate changes along them.
use Rattle.std.specs.Prelude.{◌≡◌, ℕ, suc, ◌+◌, ◌<◌, ◌≤◌, Bool, if◌then◌else◌, List, [], ◌∷◌, length, map, take, All}
use Rattle.hz_core.specs.declared.kind.Kind.{Kind}
use Rattle.hz_core.specs.Gate.{gate_value}
use Rattle.hz_net.specs.Network.{bit_at}
use Rattle.hz_word.specs.declared.count.Count.{Count}
use Rattle.hz_word.specs.declared.count.Count.TheVariants.{Exact}
use Rattle.hz_word.specs.declared.word.Word.{Word}
use Rattle.hz_word.specs.Word.{AreWords}
use Rattle.hz_word.specs.Walk.{IsPartOfWalk, walk_changes}
use Rattle.hz_word.specs.Capped.{capped_count, capped_word, IsAtMost}
use Rattle.hz_orders.specs.declared.order.Order.{Order}

-- how often a pin's word advances in moves
abbrev pub advances : List (List Bool) → ℕ → ℕ
advances [] pin = 0
advances (move ∷ moves) pin = (if bit_at move pin then 1 else 0) + advances moves pin

-- The wires of a gate, by the first of them and their number, have advanced so often each. They keep an order of two of them: if
-- the second has advanced n times, the first has advanced. An order of other wires says nothing here.
abbrev pub IsKeptAt : ℕ → ℕ → (ℕ → ℕ) → Order → Type 0
IsKeptAt wire pins advanced order =
    (first second : ℕ) → first < pins → second < pins → wire + first ≡ order.first →
    wire + second ≡ order.second → order.nth ≤ advanced second → 1 ≤ advanced first

-- A part of a walk through the words of a gate's wires that keeps the orders after each move. Several words may advance in one.
pub record IsKeepingPart (orders : List Order) (wire : ℕ) (words moves : List (List Bool))
    : Type 0 where
  pub part : IsPartOfWalk words moves
  pub kept : (k : ℕ) → k < length moves →
      All (λ order. IsKeptAt wire (length words) (advances (take (suc k) moves)) order) orders

-- A gate changes this often at most along the parts of walks through its wires' words that keep the orders, and along one it does.
pub record IsMostUnder (orders : List Order) (kind : Kind) (wire : ℕ) (words : List (List Bool))
    (most : ℕ) : Type 0 where
  pub bound : (moves : List (List Bool)) → IsKeepingPart orders wire words moves →
      walk_changes (gate_value kind) words moves ≤ most
  pub attained : (moves : List (List Bool)) × IsKeepingPart orders wire words moves
      × (walk_changes (gate_value kind) words moves ≡ most)

-- The number of changes of a gate under orders: for all words whose capped forms are the pins, the capped form of the most.
abbrev pub IsCountUnder : List Order → Kind → ℕ → List Word → ℕ → Count → Type 0
IsCountUnder orders kind wire pins cap count =
    (words : List (List Bool)) → AreWords words → map (capped_word cap) words ≡ pins →
    (most : ℕ) × IsMostUnder orders kind wire words most × (capped_count cap most ≡ count)

-- A number bounds the changes of a gate under orders: for all words whose capped forms are the pins, the gate changes at most so
-- often along each part of a walk that keeps the orders.
abbrev pub IsBoundUnder : List Order → Kind → ℕ → List Word → ℕ → Count → Type 0
IsBoundUnder orders kind wire pins cap bound =
    (words : List (List Bool)) → AreWords words → map (capped_word cap) words ≡ pins →
    (moves : List (List Bool)) → IsKeepingPart orders wire words moves →
    IsAtMost (Exact (walk_changes (gate_value kind) words moves)) bound
