use Rattle.std.proofs.Common.{◌≡◌, ◌<◌, ℕ}
use Rattle.hz_reach.proofs.Words.{bit_at, free_pins}
use Rattle.hz_reach.proofs.spreading.list_free.Given as goal

-- the pins so far are known
abbrev pub invariant-loop-pin : goal.invariant-loop-pin
invariant-loop-pin l = (k : ℕ) → k < l.pin → bit_at l.free k ≡ bit_at (free_pins l.own l.ranks) k
