-- All so far are feedback-free.
use Rattle.std.proofs.Common.{◌≡◌, ℕ, ◌<◌, ◌≤◌, true}
use Rattle.hz_net.specs.Network.{bit_at}
use Rattle.hz_free.proofs.feedback.first_feeding.Given as goal

abbrev pub invariant-loop-var : goal.invariant-loop-var
invariant-loop-var l = (i : ℕ) → l.first ≤ i → i < l.var → bit_at l.free i ≡ true
