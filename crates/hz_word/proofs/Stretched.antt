-- Words whose capped forms are given, as long as a run needs.
use Rattle.std.proofs.Common.{◌≡◌, ℕ, zero, suc, ◌+◌, ◌<◌, ◌≤◌, Bool, List, [], ◌∷◌, map, length, get_or, refl, ap, ◌∙◌, arith, inl, inr}
use Rattle.std.specs.Bool.{nat_le}
use Rattle.std.proofs.lemmas.Bool.{cases_Bool, le-leb, leb-true}
use Rattle.hz_word.specs.declared.count.Count.{Count}
use Rattle.hz_word.specs.declared.count.Count.TheVariants.{Exact, Many}
use Rattle.hz_word.specs.declared.word.Word.{Word}
use Rattle.hz_word.specs.Word.{AreWords, change_count}
use Rattle.hz_word.specs.Capped.{capped_word, capped_count, IsWithinCap, IsAtMost}
use Rattle.hz_word.proofs.Longest.{alternating, alternating-IsWord, first_letter-alternating, change_count-alternating}
use Rattle.hz_word.proofs.Forms.{same_fields}

-- the number of a capped form is within the cap
pub counted-capped_count : (cap n : ℕ) → IsWithinCap cap (capped_count cap n)
counted-capped_count cap n =
    elim (cases_Bool (nat_le n cap)) [
      | inl within ↦ rw within (leb-true n cap within)
      | inr beyond ↦ rw beyond tt
    ]

-- as many changes as are told, or as many more than the cap as are asked for
abbrev pub stretched_count : ℕ → ℕ → Count → ℕ
stretched_count cap more (Exact n) = n
stretched_count cap more Many = suc (cap + more)

abbrev pub stretched : ℕ → ℕ → Word → List Bool
stretched cap more word = alternating word.first (stretched_count cap more word.changes)

capped-stretched_count : (cap more : ℕ) (count : Count) → IsWithinCap cap count → capped_count cap (stretched_count cap more count) ≡ count
capped-stretched_count cap more (Exact n) within = rw (le-leb n cap within) refl
capped-stretched_count cap more Many within =
    elim (cases_Bool (nat_le (suc (cap + more)) cap)) [
      | inl less ↦ absurd (omega (arith, leb-true (suc (cap + more)) cap less))
      | inr beyond ↦ rw beyond refl
    ]

pub capped-stretched : (cap more : ℕ) (word : Word) → IsWithinCap cap word.changes → capped_word cap (stretched cap more word) ≡ word
capped-stretched cap more word within =
    same_fields (first_letter-alternating word.first (stretched_count cap more word.changes))
    (ap (capped_count cap) (change_count-alternating word.first (stretched_count cap more word.changes))
    ∙ capped-stretched_count cap more word.changes within)

pub map-capped-stretched : (cap more : ℕ) (none : Word) (pins : List Word) → ((k : ℕ) → k < length pins → IsWithinCap cap (get_or pins k none).changes) → map (capped_word cap) (map (stretched cap more) pins) ≡ pins
map-capped-stretched cap more none [] within = refl
map-capped-stretched cap more none (pin ∷ pins) within =
    let head = capped-stretched cap more pin (within 0 (omega arith)) in
    let tail = map-capped-stretched cap more none pins (λ k few. within (suc k) (omega arith)) in
    cc

pub AreWords-stretched : (cap more : ℕ) (pins : List Word) → AreWords (map (stretched cap more) pins)
AreWords-stretched cap more [] = tt
AreWords-stretched cap more (pin ∷ pins) =
    (alternating-IsWord pin.first (stretched_count cap more pin.changes), AreWords-stretched cap more pins)

-- it is long enough for what is at most told, if that is not more than is asked for
bound-stretched_count : (cap more n : ℕ) (count : Count) → n ≤ more → IsAtMost (Exact n) count → n ≤ stretched_count cap more count
bound-stretched_count cap more n (Exact c) few below = below
bound-stretched_count cap more n Many few below = omega (arith, few)

pub bound-stretched : (cap more n : ℕ) (word : Word) → n ≤ more → IsAtMost (Exact n) word.changes → n ≤ change_count (stretched cap more word)
bound-stretched cap more n word few below =
    let counted = change_count-alternating word.first (stretched_count cap more word.changes) in
    let bound = bound-stretched_count cap more n word.changes few below in
    omega (arith, counted, bound)
