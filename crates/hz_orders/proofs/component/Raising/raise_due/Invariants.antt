-- What is told stays counted.
use Rattle.hz_orders.specs.Telling.{AreToldSoFar}
use Rattle.hz_orders.proofs.component.Raising.raise_due.Given as goal

abbrev pub invariant-loop-place : goal.invariant-loop-place
invariant-loop-place l = AreToldSoFar l.telling l.told
