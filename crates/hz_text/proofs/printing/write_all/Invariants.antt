use Rattle.std.proofs.Common.{take}
use Rattle.std.specs.List.{flat_map}
use Rattle.hz_write.specs.Writer.{Writes}
use Rattle.hz_text.specs.Printed.{assignment_text, all_listed}
use Rattle.hz_text.proofs.printing.write_all.Given as goal

-- the nodes so far
abbrev pub invariant-loop-node : goal.invariant-loop-node
invariant-loop-node g l =
    Writes g.K.Sink.output g.K.Sink.faults (flat_map (assignment_text l.circuit) (all_listed (take l.node l.bits))) l.fn.writer l.writer
