use Rattle.std.proofs.Common.{◌≡◌, ◌<◌, ℕ, None, false}
use Rattle.hz_plane.specs.Bits.{has_lane}
use Rattle.hz_plane.specs.Faults.{fault_at, IsOpenFault}
use Rattle.hz_plane.proofs.faults.note_open.Given as goal

abbrev pub invariant-loop-node : goal.invariant-loop-node
invariant-loop-node l = record {
  lanes : (lane : ℕ) → lane < 512 → IsOpenFault l.values lane l.node (fault_at l.faults lane);
  noted : (lane : ℕ) → lane < 512 → fault_at l.faults lane ≡ None → has_lane l.noted lane ≡ false;
}
