-- The orders so far whose gates have tables.
use Rattle.std.proofs.Common.{take}
use Rattle.hz_orders.proofs.Words.{network_of, AreTabled}
use Rattle.hz_orders.proofs.tabled.with_tables.Given as goal

abbrev pub invariant-loop-order : goal.invariant-loop-order
invariant-loop-order l = AreTabled (network_of l.net) l.told (take l.order-index l.orders) l.tabled.items
