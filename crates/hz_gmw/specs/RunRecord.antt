-- A run as it is written down: the steps, and the room that was made for more.
use Rattle.std.specs.Prelude.{ℕ, List, [], length, sum_by}

pub record RunRecord : Type 0 where
  pub steps : List (List ℕ)
  pub spare_flips : ℕ
  pub spare_steps : ℕ

-- no step, and room for none
abbrev pub no_steps : RunRecord
no_steps = record { steps = []; spare_flips = 0; spare_steps = 0 }

-- how many variables the steps change, each counted as often as it is changed
abbrev pub flip_count : List (List ℕ) → ℕ
flip_count steps = sum_by length steps
