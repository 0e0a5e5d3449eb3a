use Rattle.std.proofs.Common.{take}
use Rattle.std.specs.List.{flat_map}
use Rattle.hz_write.specs.Writer.{Writes}
use Rattle.hz_text.specs.Printed.{assignment_text}
use Rattle.hz_text.proofs.printing.write_assignments.Given as goal

abbrev pub invariant-loop-node : goal.invariant-loop-node
invariant-loop-node g l =
    Writes g.K.Sink.output g.K.Sink.faults (flat_map (assignment_text l.circuit) (take l.node-index l.pairs)) l.fn.writer l.writer
