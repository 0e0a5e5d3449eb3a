-- If no value so far is X, the variables so far have their values.
use Rattle.std.proofs.Common.{◌≡◌, ℕ, ◌<◌, true}
use Rattle.hz_core.specs.Ternary.{tri_of}
use Rattle.hz_net.specs.Network.{bit_at, value_at}
use Rattle.hz_seq.proofs.settled.write_settled.Given as goal

abbrev pub invariant-loop-var : goal.invariant-loop-var
invariant-loop-var l = l.known ≡ true → (i : ℕ) → i < l.var → value_at l.values i ≡ tri_of (bit_at l.state i)
