-- The variables so far that read nothing.
use Rattle.hz_free.specs.Order.{AreFirst}
use Rattle.hz_free.proofs.order.place_first.Given as goal

abbrev pub invariant-loop-var : goal.invariant-loop-var
invariant-loop-var l = AreFirst l.var l.unread l.order.items
