-- The steps so far are counted, and the orders are kept up to them.
use Rattle.std.proofs.Common.{All}
use Rattle.hz_orders.specs.Counted.{KeepsUpTo}
use Rattle.hz_orders.proofs.Steps.{AreCountedTo}
use Rattle.hz_orders.proofs.check.keeps_orders.Given as goal

abbrev pub invariant-loop-number : goal.invariant-loop-number
invariant-loop-number l =
    AreCountedTo l.number l.run.steps l.counts × All (λ order. KeepsUpTo l.number l.run.steps order) l.orders
