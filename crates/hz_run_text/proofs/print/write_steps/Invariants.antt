use Rattle.std.proofs.Common.{take}
use Rattle.std.specs.List.{flat_map}
use Rattle.hz_write.specs.Writer.{Writes, NoneWaits}
use Rattle.hz_run_text.specs.RunPrinted.{step_text}
use Rattle.hz_run_text.proofs.print.write_steps.Given as goal

abbrev pub invariant-loop-number : goal.invariant-loop-number
invariant-loop-number g l =
    (Writes g.K.Sink.output g.K.Sink.faults (flat_map (step_text l.net) (take l.number l.run.steps)) l.fn.writer l.writer)
    × NoneWaits l.writer
