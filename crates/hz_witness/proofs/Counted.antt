-- One more flip of a step that is counted, and one more step of a run.
use Rattle.std.proofs.Common.{◌≡◌, ℕ, ◌+◌, ◌<◌, false, List, [], ◌∷◌, length, get_or, set, take, refl, ap, ◌∙◌, arith, inl, inr}
use Rattle.std.proofs.lemmas.Bool.{cases_eq, cases_Bool}
use Rattle.std.proofs.lemmas.List.{get_or-set_same, get_or-set_other, take_more}
use Rattle.hz_lists.specs.Listed.{is_listed}
use Rattle.hz_lists.proofs.ListedLemmas.{listed-first, listed-other}
use Rattle.hz_reach.specs.Spread.{changes_in}
use Rattle.hz_witness.proofs.Tried.{changes-append, changes-yes, changes-no}

-- what is counted so far and what is left are the same as before
pub count-more : (counts rest : List ℕ) (i var more : ℕ) → var < length counts → is_listed rest var ≡ false → more ≡ get_or counts var 0 + 1 → get_or (set counts var more) i 0 + changes_in (rest ∷ []) i ≡ get_or counts i 0 + changes_in ((var ∷ rest) ∷ []) i
count-more counts rest i var more inside out count =
    elim (cases_eq i var) [
      | inl same ↦
          let here : get_or (set counts var more) i 0 ≡ more = rw same (get_or-set_same counts var more 0 inside) in
          let was : get_or counts i 0 ≡ get_or counts var 0 = ap (λ (n : ℕ). get_or counts n 0) same in
          let none = changes-no rest i (ap (is_listed rest) same ∙ out) in
          let one = changes-yes (var ∷ rest) i (listed-first i var rest same) in
          omega (arith, here, was, none, one, count)
      | inr differ ↦
          let here : get_or (set counts var more) i 0 ≡ get_or counts i 0 = get_or-set_other counts var i more 0 differ in
          let alike = listed-other i var rest differ in
          elim (cases_Bool (is_listed rest i)) [
            | inl there ↦
                let one = changes-yes rest i there in
                let one' = changes-yes (var ∷ rest) i (alike ∙ there) in
                omega (arith, here, one, one')
            | inr none ↦
                let zero = changes-no rest i none in
                let zero' = changes-no (var ∷ rest) i (alike ∙ none) in
                omega (arith, here, zero, zero')
          ]
    ]

-- no flip is left
pub changes-nothing : (i : ℕ) → changes_in ([] ∷ []) i ≡ 0
changes-nothing i = changes-no [] i refl

-- one step more
pub changes-step : (steps : List (List ℕ)) (number i : ℕ) → number < length steps → changes_in (take (number + 1) steps) i ≡ changes_in (take number steps) i + changes_in (get_or steps number [] ∷ []) i
changes-step steps number i few =
    ap (λ (list : List (List ℕ)). changes_in list i) (take_more steps number [] few) ∙ changes-append (take number steps) (get_or steps number [] ∷ []) i
