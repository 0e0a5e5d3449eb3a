use Rattle.std.proofs.Common.{◌≡◌, ◌-◌, ◌+◌, length, slice_range}
use Rattle.hz_reach.proofs.Words.{differs, bit_at, filtered_range}
use Rattle.hz_reach.proofs.turn.mark_changed.Given as goal

-- the wires so far that differ from the pattern are marked
abbrev pub invariant-loop-pin : goal.invariant-loop-pin
invariant-loop-pin l =
    (l.scratch.marked ≡ filtered_range (λ i. differs (bit_at (slice_range l.fn.scratch.state l.first (l.first + length l.pattern)) (i - l.first)) (bit_at l.pattern (i - l.first))) l.first l.pin)
    × (l.scratch.state ≡ l.fn.scratch.state) × (l.scratch.sorted ≡ l.fn.scratch.sorted)
