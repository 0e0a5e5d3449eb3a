use Rattle.std.proofs.Common.{◌<◌, ℕ, Some, []}
use Rattle.std.specs.List.{slice_index_or}
use Rattle.hz_plane.specs.Bits.{ArePlanes, HasValue}
use Rattle.hz_plane.specs.Pairs.{pair_at}
use Rattle.hz_plane.specs.Lanes.{listed_value}
use Rattle.hz_plane.specs.Loads.{listed_in}
use Rattle.hz_plane.proofs.passes.begin.Given as goal

abbrev pub invariant-loop-node : goal.invariant-loop-node
invariant-loop-node l = record {
  planes : (node : ℕ) → node < l.node → ArePlanes (pair_at l.values node);
  lanes : (lane node : ℕ) → lane < 512 → node < l.node → HasValue (pair_at l.values node) lane (listed_value (Some (listed_in (slice_index_or l.listings node (record { zeros = []; ones = [] })) lane)));
}
