-- Each variable counts what it reads of the variables so far.
use Rattle.std.proofs.Common.{[], length}
use Rattle.hz_net.specs.Network.{network_of}
use Rattle.hz_net.specs.Reads.{readers_of}
use Rattle.hz_free.specs.Order.{AreReads}
use Rattle.hz_free.proofs.order.count_reads.Given as goal

abbrev pub invariant-loop-var : goal.invariant-loop-var
invariant-loop-var l = AreReads (readers_of l.net) (length (network_of l.net)) l.var [] l.unread.items
