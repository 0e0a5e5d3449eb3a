-- The ranges of the numbers that the command line names.
use Rattle.std.specs.Prelude.{ℕ, ◌≤◌}
use Rattle.hz_word.specs.Capped.{greatest_cap}

-- a number is a cap
abbrev pub IsCap : ℕ → Type 0
IsCap cap = (1 ≤ cap) × (cap ≤ greatest_cap)

-- the greatest number that has a generated circuit
abbrev pub most_demo_number : ℕ
most_demo_number = 18000

-- a number that has a generated circuit
pub record IsDemoNumber (n : ℕ) : Type 0 where
  pub least : 1 ≤ n
  pub most : n ≤ most_demo_number
