-- A variable is counted once for each variable so far, at most.
use Rattle.std.proofs.Common.{arith, suc, ◌+◌, drop, get_or, length, drop-cons}
use Rattle.hz_net.specs.Network.{network_of}
use Rattle.hz_net.specs.Reads.{readers_of}
use Rattle.hz_free.proofs.Counting.{count-bound, readers_of-once}
use Rattle.hz_free.proofs.order.count_readers.Goals as goal

pub overflow_add-unread : goal.overflow_add-unread
overflow_add-unread c =
    let index = c.loop-reader.reader-index in
    let items = c.readers-reader-items.result.now in
    let reader = get_or items index 0 in
    let inside = c.readers-reader-items.ensures.inside index 0 c.loop-reader-test.true in
    let are = rw (drop-cons items index 0 c.loop-reader-test.true) at c.loop-reader.invariant in
    let bound = count-bound (readers_of c.args.net.now) (length (network_of c.args.net.now)) c.loop-reader.unread (c.args.var + 1) reader (drop (suc index) items) are inside (λ j. readers_of-once c.args.net.now reader j) in
    omega (arith, bound)
