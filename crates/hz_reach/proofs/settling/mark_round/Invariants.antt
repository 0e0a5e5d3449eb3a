use Rattle.std.proofs.Common.{◌≡◌, ◌<◌, ◌≤◌, ℕ, get_or, slice_range}
use Rattle.hz_reach.proofs.Words.{key_at}
use Rattle.hz_reach.specs.Rounds.{differing_variables}
use Rattle.hz_reach.proofs.settling.mark_round.Given as goal

-- the variables so far are of the round, and those that differ are marked
abbrev pub invariant-loop-place : goal.invariant-loop-place
invariant-loop-place l =
    (l.scratch.marked ≡ differing_variables l.b l.fn.scratch.state (slice_range l.fn.scratch.by_round l.from l.place))
    × (l.scratch.state ≡ l.fn.scratch.state) × (l.scratch.by_round ≡ l.fn.scratch.by_round) × (l.scratch.sorted ≡ l.fn.scratch.sorted)
    × ((k : ℕ) → l.from ≤ k → k < l.place → key_at l.when (get_or l.fn.scratch.by_round k 0) ≡ key_at l.when (get_or l.fn.scratch.by_round l.from 0))
