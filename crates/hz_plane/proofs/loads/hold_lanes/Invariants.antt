use Rattle.std.proofs.Common.{◌≡◌, ◌<◌, ℕ, true, false, take}
use Rattle.hz_plane.specs.Bits.{has_lane}
use Rattle.hz_plane.specs.Loads.{lane_listed, held_at}
use Rattle.hz_plane.proofs.loads.hold_lanes.Given as goal

abbrev pub invariant-loop-node : goal.invariant-loop-node
invariant-loop-node l = record {
  here : (lane : ℕ) → lane < 512 → has_lane l.lanes lane ≡ true → lane_listed l.listings lane ≡ held_at (take l.node-index l.held) (lane_listed l.fn.listings lane);
  others : (other : ℕ) → other < 512 → has_lane l.lanes other ≡ false → lane_listed l.listings other ≡ lane_listed l.fn.listings other;
}
