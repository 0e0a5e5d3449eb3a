use Rattle.hz_plane.specs.Bits.{IsPlane}
use Rattle.hz_plane.specs.Faults.{AreUnknownLanes}
use Rattle.hz_plane.proofs.faults.unknown_lanes.Given as goal

abbrev pub invariant-loop-node : goal.invariant-loop-node
invariant-loop-node l = record {
  lanes : AreUnknownLanes l.values l.node l.unknown;
  plane : IsPlane l.unknown;
}
