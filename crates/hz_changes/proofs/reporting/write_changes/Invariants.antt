-- The changes so far are analysed, and their lines are given.
use Rattle.std.proofs.Common.{◌≡◌, List, length, take}
use Rattle.hz_changes.proofs.Words.{Writes, NoneWaits, Analysis, AreFirstAnalyses, analyses_text}
use Rattle.hz_changes.proofs.Writable.{IsStopInside}
use Rattle.hz_changes.proofs.reporting.write_changes.Given as goal

abbrev pub invariant-loop-number : goal.invariant-loop-number
invariant-loop-number g l =
    (analyses : List Analysis)
    × AreFirstAnalyses l.fn.plate.netlist l.cap l.fn.sequence.start (take l.number l.script.changes) analyses l.sequence
    × (length analyses ≡ length (take l.number l.script.changes))
    × IsStopInside l.fn.plate.netlist l.sequence.stopped
    × Writes g.K.Sink.output g.K.Sink.faults (analyses_text l.fn.plate.netlist l.fn.plate.show 1 (take l.number l.script.changes) analyses) l.fn.writer l.writer
    × (NoneWaits l.fn.writer → NoneWaits l.writer)
    × (l.plate ≡ l.fn.plate)
