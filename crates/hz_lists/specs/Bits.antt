-- Bits in words of 64.
use Rattle.std.specs.Prelude.{◌≡◌, ◌≢◌, ℕ, ◌/◌, ◌%◌, ◌<◌, ◌↔◌, List, length, slice_index_or}
use Rattle.std.specs.Int.{bit_at}

-- the bit at a place, 1 or 0; beyond the words there is none
abbrev pub slot_bit : List ℕ → ℕ → ℕ
slot_bit words place = bit_at (slice_index_or words (place / 64) 0) (place % 64)

-- the words after one bit was set or cleared: it has its value, and all other bits and words stay
pub record IsTurned (old new : List ℕ) (place bit : ℕ) : Type 0 where
  pub long : length new ≡ length old
  pub here : slot_bit new place ≡ bit
  pub others : (other : ℕ) → other ≢ place → slot_bit new other ≡ slot_bit old other
  pub apart : (word : ℕ) → word ≢ place / 64 → slice_index_or new word 0 ≡ slice_index_or old word 0

-- a place has the lowest bit that is set in a word
pub record IsLowestIn (words : List ℕ) (word place : ℕ) : Type 0 where
  pub inside : place / 64 ≡ word
  pub set : slot_bit words place ≡ 1
  pub lowest : (other : ℕ) → other / 64 ≡ word → other < place → slot_bit words other ≡ 0

-- and the highest one
pub record IsHighestIn (words : List ℕ) (word place : ℕ) : Type 0 where
  pub inside : place / 64 ≡ word
  pub set : slot_bit words place ≡ 1
  pub highest : (other : ℕ) → other / 64 ≡ word → place < other → slot_bit words other ≡ 0

-- the upper words have a bit for each lower word that has one
abbrev pub Summarises : List ℕ → List ℕ → Type 0
Summarises upper lower = (word : ℕ) → (slot_bit upper word ≡ 0) ↔ (slice_index_or lower word 0 ≡ 0)
