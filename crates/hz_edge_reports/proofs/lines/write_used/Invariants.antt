use Rattle.std.proofs.Common.{take}
use Rattle.std.specs.List.{flat_map}
use Rattle.hz_write.specs.Writer.{Writes, NoneWaits}
use Rattle.hz_edge_reports.specs.EdgeText.{used_line}
use Rattle.hz_edge_reports.proofs.lines.write_used.Given as goal

-- the lines of the orders so far, and nothing waits
abbrev pub invariant-loop-order : goal.invariant-loop-order
invariant-loop-order g l =
    (Writes g.K.Sink.output g.K.Sink.faults (flat_map (used_line l.net) (take l.order-index l.used)) l.fn.writer l.writer)
    × NoneWaits l.writer
