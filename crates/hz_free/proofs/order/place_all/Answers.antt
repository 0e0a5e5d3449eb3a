-- The order has no more variables than there are.
use Rattle.std.proofs.Common.{arith, length}
use Rattle.hz_lists.proofs.ListedLemmas.{is_repeat_free-bound}
use Rattle.hz_free.proofs.order.place_all.Goals as goal

pub loop-place-smaller : goal.loop-place-smaller
loop-place-smaller c =
    let invariant = c.loop-place.invariant in
    let bound = is_repeat_free-bound c.loop-place.order.items (length c.loop-place.unread) invariant.once (λ i there. let few = invariant.inside i there in let long = invariant.long in omega arith) in
    let same = c.place_readers.auto.unread in
    let test = c.loop-place-test.true in
    let len = c.len.ensures in
    omega arith
