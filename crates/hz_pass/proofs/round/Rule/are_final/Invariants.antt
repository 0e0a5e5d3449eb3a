-- If all are final so far, no value so far is open.
use Rattle.std.proofs.Common.{◌≡◌, ◌+◌, ◌<◌, ℕ, true, false}
use Rattle.hz_net.specs.Network.{value_at}
use Rattle.hz_pass.specs.Frontier.{is_open}
use Rattle.hz_pass.proofs.round.Rule.are_final.Given as goal

abbrev pub invariant-loop-place : goal.invariant-loop-place
invariant-loop-place l = l.all ≡ true → (i : ℕ) → i < l.place → is_open l.self (value_at l.values (l.first + i)) ≡ false
