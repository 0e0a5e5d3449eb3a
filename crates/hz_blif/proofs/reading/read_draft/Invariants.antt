use Rattle.std.proofs.Common.{length}
use Rattle.hz_line.specs.Line.{lines_of_rest}
use Rattle.hz_blif.specs.Text.{joined_from}
use Rattle.hz_blif.proofs.LoopSteps.{IsReading}
use Rattle.hz_blif.proofs.reading.read_draft.Given as goal

abbrev pub invariant-loop-rest : goal.invariant-loop-rest
invariant-loop-rest l = IsReading l.text l.draft l.course l.number l.rest

abbrev pub decreases-loop-rest : goal.decreases-loop-rest
decreases-loop-rest l = length (joined_from l.number (lines_of_rest l.rest))
