use Rattle.std.proofs.Common.{◌≡◌, ◌≤◌, ◌<◌, ◌+◌, ◌*◌, ◌^◌, ◌⊎◌, length, get_or}
use Rattle.hz_plane.specs.Steps.{AreAllPlanes}
use Rattle.hz_plane.specs.Sweeps.{weight, AreDueBelow, AreMarkedWithin, Ran}
use Rattle.hz_plane.proofs.sweep.Pass.sweep_word.Given as goal

abbrev pub invariant-loop-marks : goal.invariant-loop-marks
invariant-loop-marks l = record {
  ran : Ran l.self.rule l.self.net.now l.fn.planes l.planes;
  planes : AreAllPlanes l.planes;
  due : AreDueBelow l.to.places l.self.rule l.self.net.now l.self.schedule.now.order.items l.marks l.planes;
  within : AreMarkedWithin l.marks l.word l.to.words l.next.begin l.next.end;
  bound : l.fn.span.end ≤ length l.fn.marks → l.next.end ≤ length l.fn.marks;
  less : (l.next ≡ l.fn.span) ⊎ (weight l.self.rule l.planes < weight l.self.rule l.fn.planes);
  most : weight l.self.rule l.planes ≤ weight l.self.rule l.fn.planes;
}

-- A change counts for more than all marks of the word.
abbrev pub decreases-loop-marks : goal.decreases-loop-marks
decreases-loop-marks l = weight l.self.rule l.planes * 2 ^ 64 + get_or l.marks l.word 0
