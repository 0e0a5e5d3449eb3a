-- Each variable counts what it reads of the variables so far, but for the readers that are left.
use Rattle.std.proofs.Common.{◌+◌, drop, length}
use Rattle.hz_net.specs.Network.{network_of}
use Rattle.hz_net.specs.Reads.{readers_of}
use Rattle.hz_free.specs.Order.{AreReads}
use Rattle.hz_free.proofs.order.count_readers.Given as goal

abbrev pub invariant-loop-reader : goal.invariant-loop-reader
invariant-loop-reader l =
    AreReads (readers_of l.net) (length (network_of l.net)) (l.var + 1) (drop l.reader-index l.reader-items) l.unread
