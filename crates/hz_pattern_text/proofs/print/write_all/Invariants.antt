use Rattle.std.proofs.Common.{take}
use Rattle.std.specs.List.{flat_map}
use Rattle.hz_write.specs.Writer.{Writes, NoneWaits}
use Rattle.hz_pattern_text.specs.PatternPrinted.{pattern_text}
use Rattle.hz_pattern_text.proofs.print.write_all.Given as goal

abbrev pub invariant-loop-number : goal.invariant-loop-number
invariant-loop-number g l =
    (Writes g.K.Sink.output g.K.Sink.faults (flat_map pattern_text (take l.number l.patterns.patterns)) l.fn.writer l.writer)
    × NoneWaits l.writer
