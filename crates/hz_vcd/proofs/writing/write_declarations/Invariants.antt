use Rattle.std.specs.List.{flat_map, range_with_len}
use Rattle.hz_write.specs.Writer.{Writes, NoneWaits}
use Rattle.hz_vcd.specs.Printed.{declaration_line}
use Rattle.hz_vcd.proofs.writing.write_declarations.Given as goal

-- the declarations of the variables so far
abbrev pub invariant-loop-var : goal.invariant-loop-var
invariant-loop-var g l = record {
  gave : Writes g.K.Sink.output g.K.Sink.faults (flat_map (declaration_line l.net) (range_with_len 0 l.var)) l.fn.writer l.writer;
  waits : NoneWaits l.fn.writer → NoneWaits l.writer;
}
