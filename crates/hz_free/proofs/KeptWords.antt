-- Lists of words as they are kept, and the words that are in them.
use Rattle.std.proofs.Common.{◌≡◌, ◌∙◌, ℕ, ◌+◌, ◌-◌, ◌<◌, ◌≤◌, List, map, length, take, drop, get_or, set, Option, Some, None, Bool, refl, sym, ap, subst, arith, inl, inr, get_or-set_same, get_or-set_other}
use Rattle.std.specs.Prelude.{slice_range, IsSome}
use Rattle.std.specs.Bool.{nat_le}
use Rattle.std.proofs.lemmas.Bool.{cases_Bool, cases_eq, leb-true}
use Rattle.std.proofs.lemmas.List.{take-map, drop-map, map-set, length-map}
use Rattle.hz_word.specs.declared.word.Word.{Word}
use Rattle.hz_word.specs.Word.{change_count}
use Rattle.hz_word.specs.Capped.{capped_word, greatest_cap, IsWithinCap}
use Rattle.hz_free.specs.CappedWords.{HasCountedWord}

module _ {X Y : Type 0} (f : X → Y) where
  -- a part of a list
  pub map-slice_range : (list : List X) (first end : ℕ) → map f (slice_range list first end) ≡ slice_range (map f list) first end
  map-slice_range list first end =
      sym (ap (take (end - first)) (drop-map f first list) ∙ take-map f (end - first) (drop first list))

  pub length-slice_range : (list : List X) (first end : ℕ) → length (slice_range list first end) ≡ length (slice_range (map f list) first end)
  length-slice_range list first end = sym (length-map (slice_range list first end) f) ∙ ap length (map-slice_range list first end)

  -- an element is replaced
  pub map-set_told : (list : List X) (place : ℕ) (x : X) (y : Y) → f x ≡ y → map f (set list place x) ≡ set (map f list) place y
  map-set_told list place x y same = map-set f list place x ∙ ap (set (map f list) place) same

  -- one more element is what it is to be
  pub told-set : (list : List X) (place : ℕ) (x : X) (none : Y) (want : ℕ → Y) → f x ≡ want place → place < length list → ((k : ℕ) → k < place → get_or (map f list) k none ≡ want k)
      → (k : ℕ) → k < place + 1 → get_or (map f (set list place x)) k none ≡ want k
  told-set list place x none want same within before k few =
      let inside : place < length (map f list) = omega (arith, within, length-map list f) in
      ap (λ (told : List Y). get_or told k none) (map-set f list place x)
      ∙ elim (cases_eq k place) [
        | inl here ↦ rw here (rw get_or-set_same same)
        | inr ne ↦ rw get_or-set_other (before k (omega (arith, few, ne)))
      ]

-- a word that is counted is there
pub some-counted : (cap : ℕ) (word : Option Word) → HasCountedWord cap word → IsSome word
some-counted cap None counted = absurd counted
some-counted cap (Some word) counted = refl

-- what is counted by a cap is counted by the greatest one
pub counted-capped : (cap : ℕ) (letters : List Bool) (word : Word) → cap ≤ greatest_cap → capped_word cap letters ≡ word → IsWithinCap greatest_cap word.changes
counted-capped cap letters word below same =
    subst (λ (word : Word). IsWithinCap greatest_cap word.changes) same
    (elim (cases_Bool (nat_le (change_count letters) cap)) [
      | inl within ↦ rw within (let counted = leb-true (change_count letters) cap within in omega (arith, counted, below))
      | inr beyond ↦ rw beyond tt
    ])
