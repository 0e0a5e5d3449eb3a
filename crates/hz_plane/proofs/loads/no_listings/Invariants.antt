use Rattle.std.proofs.Common.{◌≡◌, ℕ, None, replicate}
use Rattle.hz_plane.specs.Loads.{lane_listed}
use Rattle.hz_plane.proofs.loads.no_listings.Given as goal

abbrev pub invariant-loop-node : goal.invariant-loop-node
invariant-loop-node l = (lane : ℕ) → lane_listed l.listings.items lane ≡ replicate l._node None
