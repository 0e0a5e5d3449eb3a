-- The orders so far follow.
use Rattle.hz_orders.specs.Following.{GrowsByFollowing}
use Rattle.hz_orders.proofs.ideal.add_orders.Given as goal

abbrev pub invariant-loop-pin : goal.invariant-loop-pin
invariant-loop-pin l = GrowsByFollowing l.change l.ends.wire l.initial.found.items l.found.items
