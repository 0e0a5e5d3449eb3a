-- The steps of a run that is kept in two parts.
use Rattle.std.specs.Prelude.{ℕ, List, ◌++◌, Option}
use Rattle.std.specs.Borrow.{Bor}
use Rattle.std.specs.Option.{option_map}
use Rattle.hz_gmw.specs.RunRecord.{RunRecord}
use Rattle.hz_text.specs.RunParts.{cycle_steps}

-- the steps of a cycle, if there is one
abbrev pub steps_of_cycle : Option (Bor RunRecord) → List (List ℕ)
steps_of_cycle cycle = cycle_steps (option_map (λ run. run.now.steps) cycle)

-- the steps of a lead, and then those of the cycle
abbrev pub steps_of_run : RunRecord → Option (Bor RunRecord) → List (List ℕ)
steps_of_run lead cycle = lead.steps ++ steps_of_cycle cycle
