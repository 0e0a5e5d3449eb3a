-- The orders of a list by which gates go: those whose gate has a table.
use Rattle.std.specs.Prelude.{◌≡◌, ℕ, ◌+◌, ◌⊎◌, List, [], ◌∷◌, ◌++◌, slice_range, All}
use Rattle.hz_net.specs.Network.{Driver}
use Rattle.hz_net.specs.Reads.{IsWireInto}
use Rattle.hz_word.specs.declared.word.Word.{Word}
use Rattle.hz_orders.specs.declared.order.Order.{Order}
use Rattle.hz_orders.specs.Parts.{IsKeptAt}
use Rattle.hz_orders.specs.Positions.{HaveTable}

-- the gate of an order has a table by the words that its wires are told
pub record HasTableAt (net : List Driver) (told : List Word) (order : Order) : Type 0 where
  pub gate : ℕ
  pub into : IsWireInto net gate order.first
  pub table : HaveTable (slice_range told into.first (into.first + into.pins))

-- the orders of a list whose gates have tables, in their order
abbrev pub AreTabled : List Driver → List Word → List Order → List Order → Type 0
AreTabled net told [] tabled = tabled ≡ []
AreTabled net told (order ∷ orders) tabled =
    (HasTableAt net told order
    × ((rest : List Order) × (tabled ≡ order ∷ rest) × AreTabled net told orders rest))
    ⊎ ((HasTableAt net told order → ⊥) × AreTabled net told orders tabled)

-- an order is added to a list, if its gate has a table
abbrev pub AddsTabled : List Driver → List Word → Order → List Order → List Order → Type 0
AddsTabled net told order old new =
    (HasTableAt net told order × (new ≡ old ++ order ∷ []))
    ⊎ ((HasTableAt net told order → ⊥) × (new ≡ old))

-- orders hold the wires of a gate, by the first of them and their number, as others do: what keeps the ones keeps the others
abbrev pub HoldAlike : ℕ → ℕ → List Order → List Order → Type 0
HoldAlike wire pins others orders =
    (advanced : ℕ → ℕ) → All (λ order. IsKeptAt wire pins advanced order) orders →
    All (λ order. IsKeptAt wire pins advanced order) others
