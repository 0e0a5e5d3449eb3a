use Rattle.std.proofs.Common.{take, codes}
use Rattle.std.specs.List.{flat_map}
use Rattle.hz_write.specs.Writer.{Writes, NoneWaits}
use Rattle.hz_text.specs.Printed.{statement_text}
use Rattle.hz_script.proofs.print.write_changes.Given as goal

abbrev pub invariant-loop-number : goal.invariant-loop-number
invariant-loop-number g l =
    (Writes g.K.Sink.output g.K.Sink.faults
    (flat_map (statement_text l.circuit (codes "change")) (take l.number l.script.changes)) l.fn.writer l.writer)
    × NoneWaits l.writer
