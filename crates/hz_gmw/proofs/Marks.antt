-- Marks with those of a list set.
use Rattle.std.proofs.Common.{◌≡◌, ℕ, ◌<◌, Bool, true, false, ◌||◌, List, [], ◌∷◌, length, set, refl, sym, ap, ◌∙◌, arith, inl, inr}
use Rattle.std.proofs.lemmas.Bool.{cases_eq, or_left, or_right}
use Rattle.std.proofs.lemmas.List.{length-set, get_or-set_same, get_or-set_other}
use Rattle.hz_net.specs.Network.{bit_at}
use Rattle.hz_lists.specs.Listed.{is_listed}
use Rattle.hz_gmw.specs.CurrentState.{with_marks}
use Rattle.hz_lists.proofs.ListedLemmas.{listed-first, listed-other}

pub length-with_marks : (marks : List Bool) (list : List ℕ) → length (with_marks marks list) ≡ length marks
length-with_marks marks [] = refl
length-with_marks marks (x ∷ list) = length-with_marks (set marks x true) list ∙ length-set marks x true

pub at-with_marks : (marks : List Bool) (list : List ℕ) (i : ℕ) → i < length marks → bit_at (with_marks marks list) i ≡ (bit_at marks i || is_listed list i)
at-with_marks marks [] i inside = sym (or-false (bit_at marks i))
  where
    or-false : (a : Bool) → a || false ≡ a
    or-false true = refl
    or-false false = refl
at-with_marks marks (x ∷ list) i inside =
    at-with_marks (set marks x true) list i (omega (arith, inside, length-set marks x true)) ∙ (elim (cases_eq i x) [
      | inl same ↦ (
          let here : x < length marks = omega (arith, inside, same) in
          or_left (bit_at (set marks x true) i) (is_listed list i) (ap (bit_at (set marks x true)) same ∙ get_or-set_same marks x true false here) ∙
          sym (or_right (bit_at marks i) (is_listed (x ∷ list) i) (listed-first i x list same))
          )
      | inr differ ↦
          ap (λ (b : Bool). b || is_listed list i) (get_or-set_other marks x i true false differ) ∙
          ap (λ (b : Bool). bit_at marks i || b) (sym (listed-other i x list differ))
    ])
