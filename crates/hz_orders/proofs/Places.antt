-- What is told of each position of a gate's wires.
use Rattle.std.proofs.Common.{◌≡◌, ◌⊎◌, ℕ, ◌+◌, ◌<◌, ◌≤◌, Bool, List, [], length, get_or, IsTrue, sym, ap, ◌∙◌, subst, inl, inr}
use Rattle.hz_orders.proofs.Words.{change_between, KeepsAt, value_of, AdvancesEach, OrderedGate}
use Rattle.hz_orders.specs.Tables.{IsPlaceAt, no_place}
use Rattle.hz_orders.specs.declared.table.Place.{Place}
use Rattle.hz_orders.proofs.Rows.{through}

-- it is told of the first positions of a list
pub record ArePlacesBefore (gate : OrderedGate) (positions : List (List ℕ)) (end : ℕ) (places : List Place) : Type 0 where
  pub long : length places ≡ end
  pub each : (number : ℕ) → number < end → IsPlaceAt gate (get_or positions number []) (get_or places number no_place)

-- what is found by what is told of two positions holds of these
module _ (gate : OrderedGate) (before after : List ℕ) (old : Bool) (new : Place) (most more : ℕ) (is_old : old ≡ value_of gate.kind gate.pins.now before) (is_new : IsPlaceAt gate after new) where
  same-through : most + change_between old new.value ≡ through gate before after most
  same-through =
      ap (λ (value : Bool). most + change_between value new.value) is_old
      ∙ ap (λ (value : Bool). most + change_between (value_of gate.kind gate.pins.now before) value) is_new.value

  pub place-bound : (AdvancesEach before after → IsTrue new.kept → most + change_between old new.value ≤ more) → AdvancesEach before after → KeepsAt gate.orders.now gate.wire after → through gate before after most ≤ more
  place-bound bound advances kept =
      subst (λ (n : ℕ). n ≤ more) same-through (bound advances (is_new.others kept))

  pub place-attained : ((more ≡ 0) ⊎ (AdvancesEach before after × IsTrue new.kept × (most + change_between old new.value ≡ more))) → ((more ≡ 0) ⊎ (AdvancesEach before after × KeepsAt gate.orders.now gate.wire after × (through gate before after most ≡ more)))
  place-attained attained =
      elim attained [
        | inl none ↦ inl none
        | inr some ↦ inr (some.0, is_new.kept some.1, sym same-through ∙ some.2)
      ]
