use Rattle.std.proofs.Common.{◌≡◌, ◌<◌, ℕ, None}
use Rattle.hz_plane.specs.Faults.{fault_at}
use Rattle.hz_plane.proofs.faults.forget.Given as goal

abbrev pub invariant-loop-lane : goal.invariant-loop-lane
invariant-loop-lane l = (lane : ℕ) → lane < l.lane → fault_at l.faults lane ≡ None
