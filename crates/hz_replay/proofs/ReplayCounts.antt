-- The counts in the line of a replay.
use Rattle.std.proofs.Common.{◌≡◌, ap, ℕ, ◌+◌, ◌<◌, ◌≤◌, List, length, take, get_or, Option, Some, arith}
use Rattle.hz_replay.proofs.Words.{length-append, RunOf, cycle_steps, steps_of, total_steps, no_run, most_steps}
use Rattle.std.proofs.lemmas.List.Folds.{length-flat_map-take}

-- the steps of a run, and those of the runs before it, are no more than there are
pub steps-within : (runs : List RunOf) (number : ℕ) → number < length runs → length (steps_of (get_or runs number no_run)) + total_steps (take number runs) ≤ total_steps runs
steps-within runs number below = omega (arith, length-flat_map-take steps_of runs number no_run below)

-- the steps of a lead and of its cycle
pub parts-within : (runs : List RunOf) (number lead cycle : ℕ) (steps : List (List ℕ)) → number < length runs → total_steps runs ≤ most_steps → lead ≡ length (get_or runs number no_run).lead → (get_or runs number no_run).cycle ≡ Some steps → cycle ≡ length steps → lead + cycle ≤ most_steps
parts-within runs number lead cycle steps below few first second third =
    let run = get_or runs number no_run in
    omega (arith, steps-within runs number below, length-append run.lead (cycle_steps run.cycle), ap (λ (cycle : Option (List (List ℕ))). length (cycle_steps cycle)) second, few, first, third)
