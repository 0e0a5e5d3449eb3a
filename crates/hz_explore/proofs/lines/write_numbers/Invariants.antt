-- The numbers so far.
use Rattle.std.proofs.Common.{take}
use Rattle.hz_write.specs.Writer.{Writes}
use Rattle.hz_explore.specs.ExploreText.{used_numbers}
use Rattle.hz_explore.proofs.lines.write_numbers.Given as goal

abbrev pub invariant-loop-place : goal.invariant-loop-place
invariant-loop-place g l = Writes g.K.Sink.output g.K.Sink.faults (used_numbers 1 (take l.place l.assumptions) l.used) l.fn.writer l.writer
