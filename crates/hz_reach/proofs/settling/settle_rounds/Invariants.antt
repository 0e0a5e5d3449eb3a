use Rattle.std.proofs.Common.{◌≡◌, ◌-◌, length}
use Rattle.hz_reach.proofs.RoundTurns.{AreRoundsUnderway}
use Rattle.hz_reach.proofs.settling.settle_rounds.Given as goal

-- the rounds so far have settled, and what was sorted by rank stays
abbrev pub invariant-loop-place : goal.invariant-loop-place
invariant-loop-place l =
    record {
      underway : AreRoundsUnderway l.when l.b l.fn.scratch.state l.fn.run l.place l.scratch l.run;
      sorted : l.scratch.sorted ≡ l.fn.scratch.sorted;
    }

abbrev pub decreases-loop-place : goal.decreases-loop-place
decreases-loop-place l = length l.scratch.by_round - l.place
