-- One order more.
use Rattle.std.proofs.Common.{◌+◌, refl}
use Rattle.hz_free.proofs.NextWord.{default-same}
use Rattle.hz_orders.proofs.OwnOrders.{own-more}
use Rattle.hz_orders.proofs.table.own_orders.Goals as goal

pub loop-place-preserved : goal.loop-place-preserved
loop-place-preserved c =
    own-more c.args.gate.now _ c.loop-place.place (c.loop-place.place + 1) c.loop-place.own.items c.add_own.new.own.items refl (λ none. default-same c.args.gate.now.orders.now c.loop-place.place none _ c.loop-place-test.true) c.loop-place.invariant c.in_ok-add_own.ensures
