-- The variables that pass a test, in order.
use Rattle.std.specs.Prelude.{ℕ, Bool, List}
use Rattle.std.specs.List.{filter, range_with_len}

-- of so many variables from a number on, those that pass a test, ascending
abbrev pub filtered_range : (ℕ → Bool) → ℕ → ℕ → List ℕ
filtered_range test first count = filter test (range_with_len first count)
