-- The parts so far have starts and analyses, and their lines are given.
use Rattle.std.proofs.Common.{◌≡◌, ◌+◌, Bool, List, take, sum_by}
use Rattle.hz_edge_reports.proofs.Words.{AreAcceptedStarts, Writes, NoneWaits, EdgeAnalysis, ArePartAnalyses, parts_text, IsChangeRoom}
use Rattle.hz_edge_reports.proofs.ReportLines.{changes_of}
use Rattle.hz_edge_reports.proofs.reporting.write_parts.Given as goal

abbrev pub invariant-loop-place : goal.invariant-loop-place
invariant-loop-place g l =
    (starts : List (List Bool)) × (analyses : List (List EdgeAnalysis))
    × AreAcceptedStarts l.making.net.now (take l.place l.script.parts) starts
    × ArePartAnalyses l.making.net.now l.making.cap l.making.assumptions.now starts (take l.place l.script.parts) analyses
    × Writes g.K.Sink.output g.K.Sink.faults (parts_text l.making.net.now l.show l.making.assumptions.now 1 starts (take l.place l.script.parts) analyses) l.fn.writer l.writer
    × NoneWaits l.writer
    × IsChangeRoom l.making.net.now l.room
    × (l.number ≡ 1 + sum_by changes_of (take l.place l.script.parts))
