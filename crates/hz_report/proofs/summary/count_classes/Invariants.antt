use Rattle.std.proofs.Common.{◌≡◌, take}
use Rattle.std.specs.Prelude.{EachIndex, slice_index}
use Rattle.hz_report.specs.Report.{count_at}
use Rattle.hz_report.proofs.summary.count_classes.Given as goal

-- the rows so far
abbrev pub invariant-loop-var : goal.invariant-loop-var
invariant-loop-var l = EachIndex l.totals (λ place. slice_index l.totals place ≡ count_at (take l.var l.rows) place)
