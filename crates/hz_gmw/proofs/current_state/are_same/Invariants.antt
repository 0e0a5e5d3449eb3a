-- If they are the same so far, their bits so far are the same.
use Rattle.std.proofs.Common.{◌≡◌, ◌<◌, ℕ, true}
use Rattle.hz_net.specs.Network.{bit_at}
use Rattle.hz_gmw.proofs.current_state.are_same.Given as goal

abbrev pub invariant-loop-var : goal.invariant-loop-var
invariant-loop-var l = l.same ≡ true → (i : ℕ) → i < l.var → bit_at l.one i ≡ bit_at l.other i
