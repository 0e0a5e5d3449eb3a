use Rattle.std.proofs.Common.{◌≡◌, ◌≢◌, ◌<◌, ◌++◌, ℕ, take, drop}
use Rattle.hz_plane.specs.Loads.{lane_input}
use Rattle.hz_plane.proofs.loads.put_inputs.Given as goal

abbrev pub invariant-loop-i : goal.invariant-loop-i
invariant-loop-i l = record {
  here : lane_input l.inputs l.lane ≡ take l.i l.input ++ drop l.i (lane_input l.fn.inputs l.lane);
  others : (other : ℕ) → other < 512 → other ≢ l.lane → lane_input l.inputs other ≡ lane_input l.fn.inputs other;
}
