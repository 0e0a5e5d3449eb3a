use Rattle.std.proofs.Common.{take}
use Rattle.std.specs.List.{flat_map}
use Rattle.hz_write.specs.Writer.{Writes}
use Rattle.hz_text.specs.VariableWord.{spaced_word}
use Rattle.hz_run_text.proofs.print.write_variables.Given as goal

abbrev pub invariant-loop-var : goal.invariant-loop-var
invariant-loop-var g l =
    Writes g.K.Sink.output g.K.Sink.faults (flat_map (spaced_word l.net) (take l.var-index l.flips)) l.fn.writer l.writer
