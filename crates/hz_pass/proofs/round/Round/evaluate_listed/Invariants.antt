use Rattle.std.proofs.Common.{◌≡◌, ◌+◌, ◌<◌, ◌≤◌, ℕ, get_or, length}
use Rattle.std.specs.Prelude.{vec_capacity}
use Rattle.hz_pass.specs.InRound.{IsMadeIn, MakesSoFar}
use Rattle.hz_pass.proofs.round.Round.evaluate_listed.Given as goal

-- the variables so far are made
abbrev pub invariant-loop-var : goal.invariant-loop-var
invariant-loop-var g l =
    MakesSoFar l.self l.next l.changed.items
    × ((k : ℕ) → k < l.var-index → IsMadeIn l.self l.next (get_or l.listed k 0))
    × (vec_capacity l.changed ≡ vec_capacity l.fn.changed)
    × (l.steps ≡ l.fn.steps + l.var-index)
    × (l.fn.steps + length l.changed.items ≤ l.steps + length l.fn.changed.items)
