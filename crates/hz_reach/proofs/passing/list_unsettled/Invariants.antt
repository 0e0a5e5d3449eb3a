use Rattle.std.proofs.Common.{◌≡◌, ◌<◌, ℕ, map}
use Rattle.hz_reach.proofs.Words.{is_unknown, bit_at}
use Rattle.hz_reach.proofs.passing.list_unsettled.Given as goal

-- the pins so far are known
abbrev pub invariant-loop-pin : goal.invariant-loop-pin
invariant-loop-pin l = (k : ℕ) → k < l.pin → bit_at l.free k ≡ bit_at (map is_unknown l.values) k
