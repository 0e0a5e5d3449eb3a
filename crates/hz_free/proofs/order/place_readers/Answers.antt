-- The next variable is placed, and its readers are told one after the other.
use Rattle.std.proofs.Common.{◌+◌, length}
use Rattle.hz_net.specs.Network.{network_of}
use Rattle.hz_net.specs.Reads.{readers_of}
use Rattle.hz_free.proofs.Counting.{var-inside, readers-begin, tell-reader}
use Rattle.hz_free.proofs.order.place_readers.Goals as goal

pub readers-reader-items-requires : goal.readers-reader-items-requires
readers-reader-items-requires c =
    var-inside (readers_of c.args.net.now) (length (network_of c.args.net.now)) c.args.place c.args.unread.now c.args.order.now.items
    c.requires.is_ordering c.requires.place c.index-var.result.now c.index-var.ensures

pub loop-reader-init : goal.loop-reader-init
loop-reader-init c =
    readers-begin (readers_of c.args.net.now) (length (network_of c.args.net.now)) c.args.place c.args.unread.now c.args.order.now.items
    c.requires.is_ordering c.requires.place c.index-var.result.now c.index-var.ensures
    c.readers-reader-items.result.now c.readers-reader-items.ensures.readers

pub loop-reader-preserved : goal.loop-reader-preserved
loop-reader-preserved c =
    tell-reader (readers_of c.args.net.now) (length (network_of c.args.net.now)) (c.args.place + 1) c.readers-reader-items.result.now
    c.loop-reader.unread c.loop-reader.order.items c.tell.new.unread c.tell.new.order.items c.loop-reader.reader-index
    c.loop-reader.invariant c.loop-reader-test.true
    (c.readers-reader-items.ensures.inside c.loop-reader.reader-index 0 c.loop-reader-test.true) c.in-Ok.ensures
