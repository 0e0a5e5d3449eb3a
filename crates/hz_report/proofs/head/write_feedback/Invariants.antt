use Rattle.std.specs.List.{flat_map}
use Rattle.std.proofs.Common.{take}
use Rattle.hz_write.specs.Writer.{Writes, NoneWaits}
use Rattle.hz_report.specs.Report.{feedback_line}
use Rattle.hz_report.proofs.head.write_feedback.Given as goal

-- the lines of the cycles so far, and nothing waits
abbrev pub invariant-loop-number : goal.invariant-loop-number
invariant-loop-number g l =
    (Writes g.K.Sink.output g.K.Sink.faults (flat_map (feedback_line l.net) (take l.number l.free.cycles)) l.fn.writer l.writer)
    × NoneWaits l.writer
