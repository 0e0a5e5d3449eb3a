-- Each pin so far advances once or stays.
use Rattle.std.proofs.Common.{ℕ, ◌+◌, ◌<◌, ◌≤◌, slice_index_or}
use Rattle.hz_orders.proofs.table.is_onward.Given as goal

abbrev pub invariant-loop-pin : goal.invariant-loop-pin
invariant-loop-pin l =
    (i : ℕ) → i < l.pin →
    (slice_index_or l.before i 0 ≤ slice_index_or l.after i 0)
    × (slice_index_or l.after i 0 ≤ slice_index_or l.before i 0 + 1)
