-- One order more.
use Rattle.hz_net.specs.Network.{network_of}
use Rattle.hz_orders.proofs.WithTables.{tabled-more}
use Rattle.hz_orders.proofs.tabled.with_tables.Goals as goal

pub loop-order-preserved : goal.loop-order-preserved
loop-order-preserved c =
    tabled-more (network_of c.args.net.now) c.args.told.now c.args.orders.now c.loop-order.order-index _ c.loop-order.tabled.items c.add_tabled.new.tabled.items c.loop-order-test.true c.loop-order.invariant c.in_ok-add_tabled.ensures
