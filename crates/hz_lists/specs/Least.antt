-- The least number for which something holds, and the lesser of two numbers that may be there.
use Rattle.std.specs.Prelude.{ℕ, ◌≤◌, min, Option, Some, None}

-- it holds for this number and for no lesser one
pub record IsLeast (holds : ℕ → Type 0) (i : ℕ) : Type 0 where
  pub here : holds i
  pub least : (j : ℕ) → holds j → i ≤ j

-- the least number for which it holds, or none if there is none
abbrev pub IsLeastOf : (ℕ → Type 0) → Option ℕ → Type 0
IsLeastOf holds None = (i : ℕ) → holds i → ⊥
IsLeastOf holds (Some i) = IsLeast holds i

-- the lesser of two numbers, or the one that is there
abbrev pub option_min : Option ℕ → Option ℕ → Option ℕ
option_min None other = other
option_min (Some one) None = Some one
option_min (Some one) (Some other) = Some (min one other)
