use Rattle.std.specs.List.{flat_map, range_with_len}
use Rattle.hz_write.specs.Writer.{Writes, NoneWaits}
use Rattle.hz_vcd.specs.Inside.{value_line}
use Rattle.hz_vcd.proofs.writing.write_values.Given as goal

-- the bits of the variables so far
abbrev pub invariant-loop-var : goal.invariant-loop-var
invariant-loop-var g l = record {
  gave : Writes g.K.Sink.output g.K.Sink.faults (flat_map (value_line l.state) (range_with_len 0 l.var)) l.fn.writer l.writer;
  waits : NoneWaits l.fn.writer → NoneWaits l.writer;
}
