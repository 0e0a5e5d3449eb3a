use Rattle.hz_pass.specs.Forcing.{IsTaken}
use Rattle.hz_pass.proofs.forcing.take_data.Given as goal

-- the cuts so far have the value
abbrev pub invariant-loop-cut : goal.invariant-loop-cut
invariant-loop-cut l = IsTaken l.cuts l.value l.fn.values l.values l.fn.waiting.items l.waiting.items l.cut-index
