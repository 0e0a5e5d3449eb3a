-- What all outcomes refine, they refine still.
use Rattle.hz_orders.specs.Ends.{CoversKept}
use Rattle.hz_orders.proofs.ends.narrow_all.Given as goal

abbrev pub invariant-loop-place : goal.invariant-loop-place
invariant-loop-place l = CoversKept l.change l.values
