use Rattle.std.proofs.Common.{◌≡◌, length}
use Rattle.hz_plane.specs.Bits.{ArePlanes}
use Rattle.hz_plane.specs.Steps.{AreAllPlanes}
use Rattle.hz_plane.proofs.planes.unknown_values.Given as goal

abbrev pub invariant-loop-node : goal.invariant-loop-node
invariant-loop-node l = record {
  count : length l.values.items ≡ l._node;
  planes : AreAllPlanes l.values.items;
  unknown : ArePlanes l.unknown;
}
