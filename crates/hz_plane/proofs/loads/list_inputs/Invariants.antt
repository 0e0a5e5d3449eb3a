use Rattle.std.proofs.Common.{◌≡◌, ◌≢◌, ◌<◌, ◌++◌, ℕ, Some, map, take, drop}
use Rattle.hz_plane.specs.Loads.{lane_listed}
use Rattle.hz_plane.proofs.loads.list_inputs.Given as goal

abbrev pub invariant-loop-node : goal.invariant-loop-node
invariant-loop-node l = record {
  here : lane_listed l.listings l.lane ≡ take l.node (map Some l.first) ++ drop l.node (lane_listed l.fn.listings l.lane);
  others : (other : ℕ) → other < 512 → other ≢ l.lane → lane_listed l.listings other ≡ lane_listed l.fn.listings other;
}
