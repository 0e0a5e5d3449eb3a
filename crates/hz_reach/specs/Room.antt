-- One more step of a run, and the room that steps take.
use Rattle.std.specs.Prelude.{◌≡◌, ◌≢◌, ℕ, ◌+◌, ◌≤◌, List, [], ◌∷◌, ◌++◌, length}
use Rattle.hz_gmw.specs.RunRecord.{RunRecord, flip_count}

-- the steps of a run after one more, which is not made where it would change nothing
abbrev pub with_step_if_any : List (List ℕ) → List ℕ → List (List ℕ)
with_step_if_any steps [] = steps
with_step_if_any steps (i ∷ flips) = steps ++ (i ∷ flips) ∷ []

-- a run takes from its room just the flips and the steps that it has more
pub record Spends (old new : RunRecord) : Type 0 where
  pub flips : new.spare_flips + flip_count new.steps ≡ old.spare_flips + flip_count old.steps
  pub steps : new.spare_steps + length new.steps ≡ old.spare_steps + length old.steps

-- a run has room for a step of these variables, if there are any
pub record HasRoomForStep (flips : List ℕ) (run : RunRecord) : Type 0 where
  pub flips_fit : length flips ≤ run.spare_flips
  pub step_fits : flips ≢ [] → 1 ≤ run.spare_steps

-- a run has room for so many flips, in however many steps
pub record HasRoomFor (most : ℕ) (run : RunRecord) : Type 0 where
  pub flips : most ≤ run.spare_flips
  pub steps : most ≤ run.spare_steps
