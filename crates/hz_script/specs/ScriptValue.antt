-- Scripts as values: a start and changes.
use Rattle.std.specs.Prelude.{ℕ, ◌≤◌, Bool, List, length, All, Option}
use Rattle.hz_script.specs.Limits.{most_changes}
use Rattle.hz_text.specs.Bits.{IsChange}

-- A script. The start has one entry for each node: its bit, if it is listed. A change is the inputs that it assigns, in
-- the order of the text, each with its bit.
pub record ScriptOf : Type 0 where
  pub start : List (Option Bool)
  pub changes : List (List (ℕ × Bool))

-- what holds of every script
pub record IsScript (script : ScriptOf) : Type 0 where
  pub changes : All (IsChange (length script.start)) script.changes
  pub few : length script.changes ≤ most_changes
