-- What is told stays counted, and keeps what is known.
use Rattle.hz_bounds.specs.Telling.{AreToldSoFar}
use Rattle.hz_bounds.proofs.component.Raising.raise_due.Given as goal

abbrev pub invariant-loop-place : goal.invariant-loop-place
invariant-loop-place l = AreToldSoFar l.telling l.told
