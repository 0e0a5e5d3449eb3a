use Rattle.std.proofs.Common.{take}
use Rattle.hz_write.specs.Writer.{Writes, NoneWaits}
use Rattle.hz_edges.specs.Room.{edges_of}
use Rattle.hz_edge_reports.specs.EdgeText.{edge_lines}
use Rattle.hz_edge_reports.proofs.lines.write_lines.Given as goal

-- the lines of the variables so far, and nothing waits
abbrev pub invariant-loop-var : goal.invariant-loop-var
invariant-loop-var g l =
    Writes g.K.Sink.output g.K.Sink.faults (edge_lines l.net 0 (take l.var l.room.start.items) (take l.var l.room.ends.items) (edges_of l.room.edges)) l.fn.writer l.writer
    × NoneWaits l.writer
