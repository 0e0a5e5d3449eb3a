-- The own orders so far.
use Rattle.hz_orders.proofs.OwnOrders.{AreOwnSoFar}
use Rattle.hz_orders.proofs.table.own_orders.Given as goal

abbrev pub invariant-loop-place : goal.invariant-loop-place
invariant-loop-place l = AreOwnSoFar l.gate l.place l.own.items
