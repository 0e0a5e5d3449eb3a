use Rattle.std.proofs.Common.{◌≡◌, ◌<◌, ℕ, Bool, Some, []}
use Rattle.std.specs.List.{slice_index_or}
use Rattle.hz_core.specs.Ternary.{tri_of}
use Rattle.hz_plane.specs.Bits.{HasValue}
use Rattle.hz_plane.specs.Forward.{IsKnownPair}
use Rattle.hz_plane.specs.Loads.{listed_in}
use Rattle.hz_plane.specs.Pairs.{pair_at}
use Rattle.hz_plane.proofs.passes.list_bits.Given as goal

abbrev pub invariant-loop-node : goal.invariant-loop-node
invariant-loop-node l = record {
  known : (node : ℕ) → node < l.node → IsKnownPair (pair_at l.values node);
  lanes : (node lane : ℕ) (bit : Bool) → node < l.node → lane < 512 → listed_in (slice_index_or l.listings node (record { zeros = []; ones = [] })) lane ≡ Some bit → HasValue (pair_at l.values node) lane (tri_of bit);
}
