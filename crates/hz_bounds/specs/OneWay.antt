-- Gates that are pushed one way: whatever else turns, a gate that was turned stays turned.
use Rattle.std.specs.Prelude.{◌≡◌, ◌≢◌, ◌⊎◌, Bool, List, [], ◌∷◌, map, All}
use Rattle.hz_core.specs.declared.kind.Kind.{Kind}
use Rattle.hz_core.specs.Gate.{gate_value}
use Rattle.hz_word.specs.declared.count.Count.{Count}
use Rattle.hz_word.specs.declared.count.Count.TheVariants.{Exact, Many}
use Rattle.hz_word.specs.declared.word.Word.{Word}
use Rattle.hz_word.specs.Pairs.{last_after}
use Rattle.hz_word.specs.Capped.{IsAtMost}

-- a row of letters is on the way from another to the last letters: each letter is as it was, or the last one
abbrev pub IsOnTheWay : List Bool → List Bool → List Bool → Type 0
IsOnTheWay [] [] [] = Unit {0}
IsOnTheWay [] [] (letter ∷ after) = ⊥
IsOnTheWay [] (letter ∷ before) after = ⊥
IsOnTheWay (last ∷ ends) [] after = ⊥
IsOnTheWay (last ∷ ends) (letter ∷ before) [] = ⊥
IsOnTheWay (last ∷ ends) (letter ∷ before) (next ∷ after) =
    ((next ≡ letter) ⊎ (next ≡ last)) × IsOnTheWay ends before after

-- pins that go from some letters to others, each at most once, push a gate one way: once its value has changed, it does not
-- come back while more of them go
abbrev pub IsOneWay : Kind → List Bool → List Bool → Type 0
IsOneWay kind start ends =
    (before after : List Bool) → IsOnTheWay ends start before → IsOnTheWay ends before after →
    gate_value kind before ≢ gate_value kind start → gate_value kind after ≢ gate_value kind start

-- the letter with which a capped word ends, if its number is exact, else its first one
abbrev pub ended : Bool → Count → Bool
ended first (Exact changes) = last_after first changes
ended first Many = first

abbrev pub first_letters : List Word → List Bool
first_letters pins = map (λ pin. pin.first) pins

abbrev pub last_letters : List Word → List Bool
last_letters pins = map (λ pin. ended pin.first pin.changes) pins

-- each pin changes at most once
abbrev pub AreAtMostOnce : List Word → Type 0
AreAtMostOnce pins = All (λ pin. IsAtMost pin.changes (Exact 1)) pins

-- pins push a gate two ways: some of them turn it, and more turn it back
pub record IsTwoWay (kind : Kind) (start ends : List Bool) : Type 0 where
  pub before : List Bool
  pub after : List Bool
  pub first : IsOnTheWay ends start before
  pub then_on : IsOnTheWay ends before after
  pub turned : gate_value kind before ≢ gate_value kind start
  pub back : gate_value kind after ≡ gate_value kind start
