-- The changes so far are analysed, and their lines are given.
use Rattle.std.proofs.Common.{List, take}
use Rattle.hz_edge_reports.proofs.Words.{Writes, NoneWaits, EdgeAnalysis, edge_changes_text, IsChangeRoom}
use Rattle.hz_write.specs.Writer.{has_failed}
use Rattle.hz_edge_reports.proofs.FirstEdges.{AreSoFar}
use Rattle.hz_edge_reports.proofs.reporting.write_changes.Given as goal

abbrev pub invariant-loop-place : goal.invariant-loop-place
invariant-loop-place g l =
    (analyses : List EdgeAnalysis)
    × AreSoFar l.making.net.now l.making.cap l.making.assumptions.now l.fn.room.start.items (take l.place l.part.changes) analyses (has_failed l.writer) l.room
    × Writes g.K.Sink.output g.K.Sink.faults (edge_changes_text l.making.net.now l.show l.making.assumptions.now l.number (take l.place l.part.changes) analyses) l.fn.writer l.writer
    × NoneWaits l.writer
    × IsChangeRoom l.making.net.now l.room
