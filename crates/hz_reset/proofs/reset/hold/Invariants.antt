use Rattle.std.proofs.Common.{◌≡◌, ◌<◌, ℕ, None, length}
use Rattle.std.specs.List.{slice_index_or}
use Rattle.hz_net.specs.Network.{value_at}
use Rattle.hz_net.specs.TernaryStarts.{held_value}
use Rattle.hz_reset.proofs.reset.hold.Given as goal

-- the values so far are those of the start
abbrev pub invariant-loop-i : goal.invariant-loop-i
invariant-loop-i l =
    (length l.values ≡ length l.fn.values) × ((k : ℕ) → k < l.i → value_at l.values k ≡ held_value (slice_index_or l.held k None))
