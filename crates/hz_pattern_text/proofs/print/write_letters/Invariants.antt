use Rattle.std.proofs.Common.{map, take}
use Rattle.hz_write.specs.Writer.{Writes}
use Rattle.hz_text.specs.Printed.{letter_of}
use Rattle.hz_pattern_text.proofs.print.write_letters.Given as goal

abbrev pub invariant-loop-bit : goal.invariant-loop-bit
invariant-loop-bit g l = Writes g.K.Sink.output g.K.Sink.faults (map letter_of (take l.bit-index l.bits)) l.fn.writer l.writer
