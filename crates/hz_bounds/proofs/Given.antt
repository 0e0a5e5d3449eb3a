-- The word that its driver gives a variable, by what the variable is.
use Rattle.std.proofs.Common.{◌≡◌, ℕ, ◌+◌, ◌≤◌, Bool, false, List, length, refl, sym, subst, arith}
use Rattle.hz_bounds.proofs.Words.{slice_range, Kind, Driver, External, Function, Source, driver_at, bit_at, length-part, at-part, Word, change_count, capped_word, IsWithinCap}
use Rattle.hz_bounds.proofs.Words.{IsFold, constant_word, input_word, told_at, AreCounted, counted-capped_count, map-capped-stretched, AreWords-stretched}
use Rattle.hz_free.specs.Inductive.{GivesWord}

-- the word of a gate is counted if those of its wires are
pub counted-fold : (kind : Kind) (pins : List Word) (cap : ℕ) (outcome : Word) → AreCounted cap pins → IsFold kind pins cap outcome → IsWithinCap cap outcome.changes
counted-fold kind pins cap outcome counted is_fold =
    let made = is_fold _ (AreWords-stretched cap 0 pins) (map-capped-stretched cap 0 (constant_word false) pins (λ k few. counted k (constant_word false) few)) in
    subst (λ (word : Word). IsWithinCap cap word.changes) made.2 (counted-capped_count cap (change_count made.0))

pub counted-part : (cap first count : ℕ) (told : List Word) → first + count ≤ length told → AreCounted cap told → AreCounted cap (slice_range told first (first + count))
counted-part cap first count told inside counted = λ k d few.
    let long = length-part told first count (λ k few. omega arith) in
    subst (λ (word : Word). IsWithinCap cap word.changes) (sym (at-part told first count k d (omega arith))) (counted (first + k) d (omega arith))

module _ (net : List Driver) (input start : List Bool) (cap : ℕ) (told : List Word) (var : ℕ) where
  abbrev Gives : Word → Type 0
  Gives word = GivesWord input start cap told var (driver_at net var) word

  pub gives-input : (place : ℕ) (word : Word) → driver_at net var ≡ External place → capped_word cap (input_word (bit_at start var) (bit_at input place)) ≡ word → Gives word
  gives-input place word driven same =
      subst (λ (driver : Driver). GivesWord input start cap told var driver word) (sym driven) (sym same)

  pub gives-wire : (node : ℕ) → driver_at net var ≡ Source node → Gives (told_at told node)
  gives-wire node driven =
      subst (λ (driver : Driver). GivesWord input start cap told var driver (told_at told node)) (sym driven) refl

  pub gives-gate : (kind : Kind) (first pins : ℕ) (word : Word) → driver_at net var ≡ Function kind first pins → IsFold kind (slice_range told first (first + pins)) cap word → Gives word
  gives-gate kind first pins word driven is_fold =
      subst (λ (driver : Driver). GivesWord input start cap told var driver word) (sym driven) is_fold
