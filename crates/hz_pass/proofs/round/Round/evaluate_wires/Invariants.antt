use Rattle.std.proofs.Common.{◌≡◌, ◌+◌, ◌<◌, ◌≤◌, ℕ, get_or, length}
use Rattle.std.specs.Prelude.{vec_capacity}
use Rattle.hz_pass.specs.InRound.{IsMadeIn, KeepsMade, MakesSoFar}
use Rattle.hz_pass.proofs.round.Round.evaluate_wires.Given as goal

-- the wires so far are made, and what was made is
abbrev pub invariant-loop-wire : goal.invariant-loop-wire
invariant-loop-wire g l =
    MakesSoFar l.self l.next l.changed.items
    × ((k : ℕ) → k < l.wire-index → IsMadeIn l.self l.next (get_or l.wires k 0))
    × KeepsMade l.self l.fn.next l.next
    × (vec_capacity l.changed ≡ vec_capacity l.fn.changed)
    × (l.steps ≡ l.fn.steps + l.wire-index)
    × (l.fn.steps + length l.changed.items ≤ l.steps + length l.fn.changed.items)
