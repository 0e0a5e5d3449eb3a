-- Of each position of a gate's wires the orders of these wires say the same as all orders.
use Rattle.std.proofs.Common.{◌≡◌, ◌↔◌, ℕ, ◌+◌, ◌<◌, List, [], ◌∷◌, ◌++◌, length, Some, sym, subst, arith, inl, inr}
use Rattle.hz_orders.proofs.Words.{cases_lt, IsKeptAt, KeepsAt, Order, OrderedGate}
use Rattle.std.proofs.lemmas.List.Elements.{All-push, All-pop}
use Rattle.std.specs.List.{slice_index_or}
use Rattle.hz_orders.specs.Tables.{AreWithOrder, IsOfOthers}

-- a position keeps an order
abbrev pub IsKeptBy : OrderedGate → List ℕ → Order → Type 0
IsKeptBy gate position = IsKeptAt gate.wire (length position) (λ pin. slice_index_or position pin 0)

-- an order of other wires is passed over
pub same-orders : (gate : OrderedGate) (order : Order) (fewer all : List Order) → all ≡ fewer → IsOfOthers gate order → AreWithOrder gate order fewer all
same-orders gate order fewer all same others = λ position long. (
  λ kept. (
    subst (λ (orders : List Order). KeepsAt orders gate.wire position) same kept,
    λ first second few few' e e' often. absurd (others first second (omega (arith, few, long)) (omega (arith, few', long)) e e'),
  ),
  λ kept. subst (λ (orders : List Order). KeepsAt orders gate.wire position) (sym same) kept.0,
)

-- an order of own wires is kept
pub one-more : (gate : OrderedGate) (order : Order) (fewer all : List Order) → all ≡ fewer ++ order ∷ [] → AreWithOrder gate order fewer all
one-more gate order fewer all grown = λ position long. (
  λ kept. All-pop (IsKeptBy gate position) all fewer (Some order) grown kept,
  λ kept. subst (λ (orders : List Order). KeepsAt orders gate.wire position) (sym grown) (All-push (IsKeptBy gate position) fewer order kept.0 kept.1),
)

-- the own orders among the first ones say the same as these
abbrev pub AreOwnSoFar : OrderedGate → ℕ → List Order → Type 0
AreOwnSoFar gate end own =
    (position : List ℕ) → length position ≡ length gate.pins.now →
    KeepsAt own gate.wire position
    ↔ ((i : ℕ) (none : Order) → i < end → IsKeptBy gate position (slice_index_or gate.orders.now i none))

-- one order more, of own wires or of others
pub own-more : (gate : OrderedGate) (order : Order) (place next : ℕ) (own own' : List Order) → next ≡ place + 1 → ((none : Order) → slice_index_or gate.orders.now place none ≡ order) → AreOwnSoFar gate place own → AreWithOrder gate order own own' → AreOwnSoFar gate next own'
own-more gate order place next own own' is_next is so_far with = λ position long. (
  λ kept i d few.
      elim (cases_lt i place) [
        | inl sooner ↦ (so_far position long).0 ((with position long).0 kept).0 i d sooner
        | inr not_sooner ↦
            let here : place ≡ i = omega (arith, few, not_sooner, is_next) in
            subst (λ (n : ℕ). IsKeptBy gate position (slice_index_or gate.orders.now n d)) here
            (subst (IsKeptBy gate position) (sym (is d)) ((with position long).0 kept).1)
      ],
  λ kept. (with position long).1 (
    (so_far position long).1 (λ i d few. kept i d (omega (arith, few, is_next))),
    subst (IsKeptBy gate position) (is order) (kept place order (omega (arith, is_next))),
  ),
)
