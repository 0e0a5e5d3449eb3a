-- Run texts as values: a start, an input and runs.
use Rattle.std.specs.Prelude.{ℕ, Bool, List, [], ◌∷◌, ◌++◌, Option, Some, None}
use Rattle.std.specs.List.{flat_map}
use Rattle.hz_text.specs.RunParts.{RunOf, cycle_steps}

-- A run text: the bits of the nodes at the start, those of the inputs, and the runs.
pub record RunTextOf : Type 0 where
  pub nodes : List Bool
  pub input : List Bool
  pub runs : List RunOf

-- the run with one step more, at its end
abbrev pub with_step_in : List (List ℕ) → Option (List (List ℕ)) → List ℕ → RunOf
with_step_in lead None flips = record { lead = lead ++ flips ∷ []; cycle = None }
with_step_in lead (Some cycle) flips = record { lead = lead; cycle = Some (cycle ++ flips ∷ []) }

abbrev pub with_step : RunOf → List ℕ → RunOf
with_step run flips = with_step_in run.lead run.cycle flips

-- the steps of all runs, one after the other
abbrev pub all_steps : List RunOf → List (List ℕ)
all_steps runs = flat_map (λ run. run.lead ++ cycle_steps run.cycle) runs
