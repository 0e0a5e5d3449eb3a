-- The canonical pattern: how a gate gets a wanted value by its free pins, with the fewest of them changed.
use Rattle.std.specs.Prelude.{◌≡◌, ℕ, ◌<◌, ◌≤◌, Bool, false, not, List, [], ◌∷◌, length, ◌⊎◌}
use Rattle.std.specs.Bool.{beq}
use Rattle.std.specs.List.{filter, range_with_len, slice_index_or}
use Rattle.hz_core.specs.declared.kind.Kind.{Kind}
use Rattle.hz_core.specs.Gate.{gate_value}

-- a list agrees with the present values of the pins at every pin that is not free
pub record AgreesAtFixedPins (now free list : List Bool) : Type 0 where
  pub same_length : length list ≡ length now
  pub kept : (pin : ℕ) → pin < length now → slice_index_or free pin false ≡ false →
      slice_index_or list pin false ≡ slice_index_or now pin false

-- such a list on which the gate has the wanted value
pub record IsCandidate (kind : Kind) (now free : List Bool) (want : Bool)
    (list : List Bool) : Type 0 where
  pub agrees : AgreesAtFixedPins now free list
  pub value : gate_value kind list ≡ want

-- two bits are not the same
abbrev pub differs : Bool → Bool → Bool
differs first second = not (beq first second)

-- the changed pins: the places at which a list differs from the present values, ascending
abbrev pub changed_pins : List Bool → List Bool → List ℕ
changed_pins now list =
    filter (λ pin. differs (slice_index_or now pin false) (slice_index_or list pin false))
    (range_with_len 0 (length now))

-- the lexicographic order of lists of numbers: the first is equal to the second or comes before it
abbrev pub ComesNoLater : List ℕ → List ℕ → Type 0
ComesNoLater [] seconds = Unit {0}
ComesNoLater (first ∷ firsts) [] = ⊥
ComesNoLater (first ∷ firsts) (second ∷ seconds) =
    (first < second) ⊎ ((first ≡ second) × ComesNoLater firsts seconds)

-- the canonical pattern: of the candidates one with the fewest changed pins, and among these the one whose list of
-- changed pins is the least in lexicographic order
pub record IsPattern (kind : Kind) (now free : List Bool) (want : Bool)
    (list : List Bool) : Type 0 where
  pub candidate : IsCandidate kind now free want list
  pub fewest : (other : List Bool) → IsCandidate kind now free want other →
      length (changed_pins now list) ≤ length (changed_pins now other)
  pub least : (other : List Bool) → IsCandidate kind now free want other →
      length (changed_pins now other) ≡ length (changed_pins now list) →
      ComesNoLater (changed_pins now list) (changed_pins now other)
