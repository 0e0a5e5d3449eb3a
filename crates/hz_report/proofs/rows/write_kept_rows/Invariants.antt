use Rattle.std.proofs.Common.{◌-◌, ◌≤◌, length, take}
use Rattle.hz_write.specs.Writer.{Writes, NoneWaits}
use Rattle.hz_report.specs.Report.{row_lines}
use Rattle.hz_report.proofs.ShownLemmas.{ArePut}
use Rattle.hz_report.proofs.rows.write_kept_rows.Given as goal

-- the lines before one node are given, and the rows from it on so far are put over theirs; nothing waits
abbrev pub invariant-loop-var : goal.invariant-loop-var
invariant-loop-var g l =
    ArePut l.net l.rows l.from l.var l.text l.begins l.shown
    × Writes g.K.Sink.output g.K.Sink.faults (row_lines l.net 0 (take l.from l.rows)) l.fn.writer l.writer
    × NoneWaits l.writer
    × (l.var ≤ length l.net.names)

abbrev pub decreases-loop-var : goal.decreases-loop-var
decreases-loop-var g l = l.count - l.var
