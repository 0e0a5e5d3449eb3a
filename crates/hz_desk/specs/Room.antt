-- The room that a desk has for its runs. Words about the inside of hz_desk.
use Rattle.std.specs.Prelude.{ℕ, ◌+◌, ◌≤◌, length}
use Rattle.hz_gmw.specs.RunRecord.{RunRecord, flip_count}

-- once it is emptied, a run has room for so many flips and as many steps
pub record HasRunRoom (most : ℕ) (run : RunRecord) : Type 0 where
  pub flips : most ≤ run.spare_flips + flip_count run.steps
  pub steps : most ≤ run.spare_steps + length run.steps
