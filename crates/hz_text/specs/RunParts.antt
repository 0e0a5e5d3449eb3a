-- Runs in two parts: a lead, and a cycle, if there is one.
use Rattle.std.specs.Prelude.{ℕ, List, [], Option, Some, None}

-- A run: the steps of its lead, and those of its cycle, if it has one. A step is a list of variables.
pub record RunOf : Type 0 where
  pub lead : List (List ℕ)
  pub cycle : Option (List (List ℕ))

-- the steps of a cycle, if there is one
abbrev pub cycle_steps : Option (List (List ℕ)) → List (List ℕ)
cycle_steps None = []
cycle_steps (Some steps) = steps
