use Rattle.std.proofs.Common.{◌≡◌, ◌<◌, ◌≤◌, ℕ}
use Rattle.hz_plane.specs.Bits.{has_lane}
use Rattle.hz_plane.specs.Faults.{fault_at, with_fault}
use Rattle.hz_plane.proofs.faults.note.Given as goal

abbrev pub invariant-loop-lane : goal.invariant-loop-lane
invariant-loop-lane l = record {
  done : (lane : ℕ) → lane < l.lane → fault_at l.faults lane ≡ with_fault (has_lane l.lanes lane) l.fault (fault_at l.fn.faults lane);
  rest : (lane : ℕ) → l.lane ≤ lane → fault_at l.faults lane ≡ fault_at l.fn.faults lane;
}
