use Rattle.std.proofs.Common.{◌≤◌, ◌+◌, length, cond, nat_lt}
use Rattle.hz_plane.specs.Steps.{AreAllPlanes}
use Rattle.hz_plane.specs.Sweeps.{weight, AreDueBelow, AreMarkedWithin, Ran}
use Rattle.hz_plane.proofs.sweep.Pass.rest.Given as goal

abbrev pub invariant-loop-span : goal.invariant-loop-span
invariant-loop-span l = record {
  ran : Ran l.self.rule l.self.net.now l.fn.planes l.planes;
  planes : AreAllPlanes l.planes;
  bound : l.span.end ≤ length l.fn.marks;
  due : AreDueBelow l.end l.self.rule l.self.net.now l.self.schedule.now.order.items l.marks l.planes;
  within : AreMarkedWithin l.marks 0 0 l.span.begin l.span.end;
}

-- the weight, and one more while gates are marked
abbrev pub decreases-loop-span : goal.decreases-loop-span
decreases-loop-span l = weight l.self.rule l.planes + cond (nat_lt l.span.begin l.span.end) 1 0
