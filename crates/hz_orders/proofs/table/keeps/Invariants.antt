-- Each order so far is kept.
use Rattle.std.proofs.Common.{ℕ, ◌<◌, length, slice_index_or}
use Rattle.hz_orders.proofs.Words.{IsKeptAt, Order}
use Rattle.hz_orders.proofs.table.keeps.Given as goal

abbrev pub invariant-loop-place : goal.invariant-loop-place
invariant-loop-place l =
    (i : ℕ) (none : Order) → i < l.place → IsKeptAt l.wire (length l.position) (λ pin. slice_index_or l.position pin 0) (slice_index_or l.orders i none)
