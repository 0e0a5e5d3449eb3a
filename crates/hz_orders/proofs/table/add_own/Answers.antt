-- The order is passed over, or kept.
use Rattle.std.proofs.Common.{refl}
use Rattle.hz_orders.proofs.OwnOrders.{same-orders, one-more}
use Rattle.hz_orders.proofs.table.add_own.Goals as goal

pub returns-then-not-is_own : goal.returns-then-not-is_own
returns-then-not-is_own c =
    same-orders c.args.gate.now c.args.order c.args.own.now.items c.args.own.now.items refl (c.if-not-is_own.ensures refl)

pub returns : goal.returns
returns c = one-more c.args.gate.now c.args.order c.args.own.now.items c.push.new.self.items c.in_ok-push.ensures.items
