-- It calls itself with one pin less.
use Rattle.std.proofs.Common.{length}
use Rattle.hz_orders.proofs.table.+places.Given as goal

abbrev pub decreases-places : goal.decreases-places
decreases-places l = length l.pins.now
