use Rattle.std.proofs.Common.{◌-◌, ◌≤◌}
use Rattle.hz_report.specs.Kept.{AreShown}
use Rattle.hz_report.proofs.rows.first_not_shown.Given as goal

-- the nodes so far rest at what is shown
abbrev pub invariant-loop-var : goal.invariant-loop-var
invariant-loop-var l =
    AreShown l.rows l.shown l.from l.var × (l.from ≤ l.var) × (l.var ≤ l.count)

abbrev pub decreases-loop-var : goal.decreases-loop-var
decreases-loop-var l = l.count - l.var
