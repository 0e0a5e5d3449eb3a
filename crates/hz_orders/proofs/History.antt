-- The history of a variable has as many changes as steps list it.
use Rattle.std.proofs.Common.{◌≡◌, ℕ, ◌<◌, Bool, cond, not, List, [], ◌∷◌, length, refl, ap, ◌∙◌, arith, inl, inr}
use Rattle.std.proofs.lemmas.Bool.{cases_Bool}
use Rattle.hz_lists.specs.Listed.{is_listed}
use Rattle.hz_net.specs.Network.{bit_at}
use Rattle.hz_gmw.specs.Runs.{state_after}
use Rattle.hz_gmw.proofs.Flips.{length-state_after, at-state_after}
use Rattle.hz_reach.specs.Spread.{changes_in}
use Rattle.hz_reach.proofs.FlipCounts.{listed, changes-more}
use Rattle.hz_word.specs.Word.{change_count}
use Rattle.hz_word.specs.Walk.{change_between}
use Rattle.hz_free.specs.VariableWords.{variable_history}
use Rattle.hz_free.proofs.Delays.{changes_along, change-same, change-not, change_count-history}

-- a step changes a variable if it lists it
change-listed : (flips : List ℕ) (i : ℕ) (x x' : Bool) → x' ≡ cond (is_listed flips i) (not x) x → change_between x x' ≡ listed flips i
change-listed flips i x x' same =
    elim (cases_Bool (is_listed flips i)) [
      | inl there ↦
          let turned : x' ≡ not x = same ∙ ap (λ (bit : Bool). cond bit (not x) x) there in
          rw (there, turned) (change-not x)
      | inr out ↦
          let stayed : x' ≡ x = same ∙ ap (λ (bit : Bool). cond bit (not x) x) out in
          rw (out, stayed) (change-same x)
    ]

changes-listed : (state : List Bool) (steps : List (List ℕ)) (i : ℕ) → i < length state → changes_along (λ s. bit_at s i) state steps ≡ changes_in steps i
changes-listed state [] i inside = refl
changes-listed state (flips ∷ steps) i inside =
    let one = change-listed flips i (bit_at state i) (bit_at (state_after flips state) i) (at-state_after flips state i inside) in
    let later = changes-listed (state_after flips state) steps i (omega (arith, inside, length-state_after flips state)) in
    let sum = changes-more flips steps i in
    omega (arith, one, later, sum)

pub changes-history : (start : List Bool) (steps : List (List ℕ)) (i : ℕ) → i < length start → change_count (variable_history start steps i) ≡ changes_in steps i
changes-history start steps i inside = change_count-history start steps i ∙ changes-listed start steps i inside
