-- The order, with the readers told of all variables before the place.
use Rattle.std.proofs.Common.{[], ◌-◌, length}
use Rattle.hz_net.specs.Network.{network_of}
use Rattle.hz_net.specs.Reads.{readers_of}
use Rattle.hz_free.specs.Order.{IsOrdering}
use Rattle.hz_free.proofs.order.place_all.Given as goal

abbrev pub invariant-loop-place : goal.invariant-loop-place
invariant-loop-place l = IsOrdering (readers_of l.net) (length (network_of l.net)) l.place [] l.unread l.order.items

abbrev pub decreases-loop-place : goal.decreases-loop-place
decreases-loop-place l = length l.unread - l.place
