use Rattle.std.proofs.Common.{◌≤◌}
use Rattle.std.specs.List.{slice_index, slice_range}
use Rattle.hz_write.specs.Writer.{Writes, NoneWaits}
use Rattle.hz_report.proofs.rows.write_kept_lines.Given as goal

-- the lines so far are given
abbrev pub invariant-loop-node : goal.invariant-loop-node
invariant-loop-node g l = record {
  ordered : l.from ≤ l.node;
  gave : Writes g.K.Sink.output g.K.Sink.faults (slice_range l.text (slice_index l.begins l.from) (slice_index l.begins l.node)) l.fn.writer l.writer;
  waits : NoneWaits l.fn.writer → NoneWaits l.writer;
}
