use Rattle.std.specs.List.{flat_map}
use Rattle.std.proofs.Common.{take}
use Rattle.hz_write.specs.Writer.{Writes}
use Rattle.hz_text.specs.VariableWord.{spaced_word}
use Rattle.hz_report.proofs.head.write_variables.Given as goal

-- the words of the variables so far
abbrev pub invariant-loop-var : goal.invariant-loop-var
invariant-loop-var g l =
    Writes g.K.Sink.output g.K.Sink.faults (flat_map (spaced_word l.net) (take l.var-index l.variables)) l.fn.writer l.writer
