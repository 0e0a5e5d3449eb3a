use Rattle.std.proofs.Common.{◌-◌, ◌+◌, ◌*◌, ◌≤◌, take}
use Rattle.hz_pattern_text.specs.PatternModel.{AreAddedBits}
use Rattle.hz_pattern_text.proofs.printed.push_front.Given as goal

abbrev pub invariant-loop-start : goal.invariant-loop-start
invariant-loop-start l =
    (l.start ≤ l.most) × AreAddedBits l.inputs l.start l.fn.bits.items l.bits.items (take (l.start * (10 + 2 * l.inputs)) l.text)

abbrev pub decreases-loop-start : goal.decreases-loop-start
decreases-loop-start l = l.most - l.start
