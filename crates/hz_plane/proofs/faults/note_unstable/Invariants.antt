use Rattle.std.proofs.Common.{◌≡◌, ◌<◌, ℕ, None, false}
use Rattle.hz_plane.specs.Bits.{has_lane}
use Rattle.hz_plane.specs.Faults.{fault_at, IsUnstableFault}
use Rattle.hz_plane.proofs.faults.note_unstable.Given as goal

abbrev pub invariant-loop-gate : goal.invariant-loop-gate
invariant-loop-gate l = record {
  lanes : (lane : ℕ) → lane < 512 → IsUnstableFault l.net l.listings l.values lane l.gate (fault_at l.fn.faults lane) (fault_at l.faults lane);
  noted : (lane : ℕ) → lane < 512 → fault_at l.faults lane ≡ None → has_lane l.noted lane ≡ false;
}
