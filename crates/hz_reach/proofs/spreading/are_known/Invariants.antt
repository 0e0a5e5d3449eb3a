-- If all are known so far, each so far is.
use Rattle.std.proofs.Common.{◌≡◌, ◌+◌, ◌<◌, ℕ, true, false}
use Rattle.hz_reach.proofs.Words.{is_unknown, value_at}
use Rattle.hz_reach.proofs.spreading.are_known.Given as goal

abbrev pub invariant-loop-place : goal.invariant-loop-place
invariant-loop-place l = l.known ≡ true → (i : ℕ) → i < l.place → is_unknown (value_at l.values (l.first + i)) ≡ false
