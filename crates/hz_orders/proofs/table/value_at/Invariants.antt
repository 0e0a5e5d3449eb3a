-- The letters so far stand.
use Rattle.std.proofs.Common.{◌≡◌, ℕ, ◌<◌, false, length, slice_index_or}
use Rattle.hz_orders.proofs.Words.{bit_at, last_after, constant_word}
use Rattle.hz_orders.proofs.table.value_at.Given as goal

abbrev pub invariant-loop-pin : goal.invariant-loop-pin
invariant-loop-pin l =
    (length l.letters ≡ length l.initial.letters)
    × ((i : ℕ) → i < l.pin → bit_at l.letters i ≡ last_after (slice_index_or l.gate.pins.now i (constant_word false)).first (slice_index_or l.position i 0))
