-- The steps so far are counted.
use Rattle.std.proofs.Common.{◌≡◌, ℕ, ◌<◌, length, take, get_or}
use Rattle.hz_reach.specs.Spread.{changes_in}
use Rattle.hz_witness.proofs.counting.count_changes.Given as goal

abbrev pub invariant-loop-number : goal.invariant-loop-number
invariant-loop-number l =
    (i : ℕ) → i < length l.counts → get_or l.counts i 0 ≡ changes_in (take l.number l.run.steps) i
