use Rattle.std.proofs.Common.{◌≡◌, ◌<◌, ℕ, length}
use Rattle.hz_core.specs.Ternary.{tri_of}
use Rattle.hz_net.specs.Network.{value_at, bit_at}
use Rattle.hz_pass.proofs.algorithm_a.write_bits.Given as goal

-- the values so far are those of the bits
abbrev pub invariant-loop-i : goal.invariant-loop-i
invariant-loop-i l =
    (length l.values ≡ length l.bits) × ((k : ℕ) → k < l.i → value_at l.values k ≡ tri_of (bit_at l.bits k))
