use Rattle.hz_plane.specs.EightBits.{AreGathered}
use Rattle.hz_plane.proofs.eights.gather.Given as goal

abbrev pub invariant-loop-i : goal.invariant-loop-i
invariant-loop-i l = AreGathered l.bits l.at l.step l.i l.bytes
