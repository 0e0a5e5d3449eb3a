-- Numbers of changes that are at most others.
use Rattle.std.proofs.Common.{◌≡◌, ℕ, ◌≤◌, Bool, List, arith, inl, inr}
use Rattle.std.specs.Bool.{nat_le}
use Rattle.std.proofs.lemmas.Bool.{cases_Bool}
use Rattle.hz_word.specs.declared.count.Count.{Count}
use Rattle.hz_word.specs.declared.count.Count.TheVariants.{Exact, Many}
use Rattle.hz_word.specs.declared.word.Word.{Word}
use Rattle.hz_word.specs.Word.{first_letter, change_count}
use Rattle.hz_word.specs.Capped.{capped_count, IsAtMost}
use Rattle.hz_word.specs.Covers.{Covers, Bounds}

-- what is at most a number is at most a greater one
pub at_most-trans : (n : ℕ) (count more : Count) → IsAtMost (Exact n) count → IsAtMost count more → IsAtMost (Exact n) more
at_most-trans n (Exact c) (Exact m) below above = omega (arith, below, above)
at_most-trans n (Exact c) Many below above = tt
at_most-trans n Many (Exact m) below above = absurd above
at_most-trans n Many Many below above = tt

pub at_most-less : (n m : ℕ) (count : Count) → n ≤ m → IsAtMost (Exact m) count → IsAtMost (Exact n) count
at_most-less n m (Exact c) less below = omega (arith, less, below)
at_most-less n m Many less below = tt

-- a number is at most its capped form
pub at_most-capped : (cap n m : ℕ) → n ≤ m → IsAtMost (Exact n) (capped_count cap m)
at_most-capped cap n m less =
    elim (cases_Bool (nat_le m cap)) [
      | inl within ↦ rw within less
      | inr beyond ↦ rw beyond tt
    ]

pub at_most-same : (count : Count) → IsAtMost count count
at_most-same (Exact n) = omega arith
at_most-same Many = tt

pub at_most-many : (count : Count) → IsAtMost count Many
at_most-many (Exact n) = tt
at_most-many Many = tt

pub at_most-zero : (count : Count) → IsAtMost (Exact 0) count
at_most-zero (Exact c) = omega arith
at_most-zero Many = tt

-- a history with at most so many changes is covered
bounds-at_most : (count : Count) (history : List Bool) → IsAtMost (Exact (change_count history)) count → Bounds count history
bounds-at_most (Exact c) history below = below
bounds-at_most Many history below = tt

pub covers-at_most : (word : Word) (history : List Bool) → first_letter history ≡ word.first → IsAtMost (Exact (change_count history)) word.changes → Covers word history
covers-at_most word history first below = record { same_first = first; bounded = bounds-at_most word.changes history below }
