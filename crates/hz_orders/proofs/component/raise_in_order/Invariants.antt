-- What is told stays counted.
use Rattle.hz_orders.specs.Telling.{AreToldSoFar}
use Rattle.hz_orders.proofs.component.raise_in_order.Given as goal

abbrev pub invariant-loop-part-2 : goal.invariant-loop-part-2
invariant-loop-part-2 l = AreToldSoFar l.telling l.told
