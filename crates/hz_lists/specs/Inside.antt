-- What the fields of a set of numbers stand for.
use Rattle.std.specs.Prelude.{◌≡◌, ℕ, ◌+◌, ◌/◌, ◌<◌, ◌≤◌, Bool, List, length, map, nat_eq}
use Rattle.std.specs.List.{range_with_len}
use Rattle.hz_lists.specs.NumberSets.{most_numbers}
use Rattle.hz_lists.specs.Bits.{slot_bit, Summarises}

-- of each number below a count whether its bit is set
abbrev pub marks_of : ℕ → List ℕ → List Bool
marks_of count words = map (λ number. nat_eq (slot_bit words number) 1) (range_with_len 0 count)

-- Each list has a bit for each word of the list below it, and no bit stands for a number that is not below the count.
pub record HoldsNumberSet (count : ℕ) (low middle top : List ℕ) : Type 0 where
  pub few : count ≤ most_numbers
  pub low_long : length low ≡ count / 64 + 1
  pub middle_long : length middle ≡ count / 64 / 64 + 1
  pub top_long : length top ≡ 1
  pub of_low : Summarises middle low
  pub of_middle : Summarises top middle
  pub below : (number : ℕ) → slot_bit low number ≡ 1 → number < count
