use Rattle.std.proofs.Common.{◌≡◌, ◌<◌, ℕ, length}
use Rattle.hz_split.proofs.Words.{network_of, bit_at, is_unstable}
use Rattle.hz_split.proofs.walk.look_at_all.Given as goal

-- the marks so far are right
abbrev pub invariant-loop-var : goal.invariant-loop-var
invariant-loop-var l =
    (length l.unstable ≡ length (network_of l.net))
    × ((i : ℕ) → i < l.var → bit_at l.unstable i ≡ is_unstable (network_of l.net) l.input l.state i)
