use Rattle.hz_split.proofs.Steps.{IsMadeSoFar}
use Rattle.hz_split.proofs.flips.make_run.Given as goal

-- what is left leads to the end
abbrev pub invariant-loop-number : goal.invariant-loop-number
invariant-loop-number l = IsMadeSoFar l.run.steps l.fn.state l.state l.number
