-- A dump as a value.
use Rattle.std.specs.Prelude.{ℕ, Bool, List}

-- what a dump means: a state, and the steps from there
pub record WaveOf : Type 0 where
  pub state : List Bool
  pub steps : List (List ℕ)
