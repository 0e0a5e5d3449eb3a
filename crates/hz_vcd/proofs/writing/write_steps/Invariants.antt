use Rattle.std.proofs.Common.{◌≡◌, take}
use Rattle.hz_gmw.specs.Runs.{end_of}
use Rattle.hz_write.specs.Writer.{Writes, NoneWaits}
use Rattle.hz_vcd.specs.Dump.{steps_words}
use Rattle.hz_vcd.specs.Printed.{word_lines}
use Rattle.hz_vcd.proofs.writing.write_steps.Given as goal

-- the steps so far are written, and made
abbrev pub invariant-loop-number : goal.invariant-loop-number
invariant-loop-number g l = record {
  gave : Writes g.K.Sink.output g.K.Sink.faults (word_lines (steps_words l.time l.fn.state (take l.number l.run.steps))) l.fn.writer l.writer;
  state : l.state ≡ end_of l.fn.state (take l.number l.run.steps);
  waits : NoneWaits l.fn.writer → NoneWaits l.writer;
}
