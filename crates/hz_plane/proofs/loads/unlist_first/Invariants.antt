use Rattle.std.proofs.Common.{◌≡◌, ◌++◌, ℕ, None, length, replicate, take, drop}
use Rattle.hz_plane.specs.Loads.{lane_listed}
use Rattle.hz_plane.proofs.loads.unlist_first.Given as goal

abbrev pub invariant-loop-node : goal.invariant-loop-node
invariant-loop-node l = (lane : ℕ) → lane_listed l.listings lane ≡ take l.node (replicate (length l.fn.listings) None) ++ drop l.node (lane_listed l.fn.listings lane)
