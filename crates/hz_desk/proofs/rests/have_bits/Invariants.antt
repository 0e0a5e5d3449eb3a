-- If all so far are the same, each so far is.
use Rattle.std.proofs.Common.{◌≡◌, ◌+◌, ◌<◌, ℕ, true}
use Rattle.hz_core.specs.Ternary.{tri_of}
use Rattle.hz_net.specs.Network.{bit_at, value_at}
use Rattle.hz_desk.proofs.rests.have_bits.Given as goal

abbrev pub invariant-loop-place : goal.invariant-loop-place
invariant-loop-place l = l.same ≡ true → (i : ℕ) → i < l.place → tri_of (bit_at l.bits (l.first + i)) ≡ value_at l.told (l.first + i)
