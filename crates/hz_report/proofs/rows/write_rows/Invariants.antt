use Rattle.std.proofs.Common.{take}
use Rattle.hz_write.specs.Writer.{Writes, NoneWaits}
use Rattle.hz_report.specs.Report.{row_lines}
use Rattle.hz_report.proofs.rows.write_rows.Given as goal

-- the lines of the rows so far, and nothing waits
abbrev pub invariant-loop-var : goal.invariant-loop-var
invariant-loop-var g l =
    (Writes g.K.Sink.output g.K.Sink.faults (row_lines l.net 0 (take l.var l.rows)) l.fn.writer l.writer) × NoneWaits l.writer
