use Rattle.std.proofs.Common.{arith}
use Rattle.hz_plane.proofs.ListParts.{laid-step}
use Rattle.hz_plane.proofs.lists.Lists.of.Goals as goal

pub loop-list-preserved : goal.loop-list-preserved
loop-list-preserved c =
    laid-step c.loop-list.ends.items c.loop-list.numbers.items c.push.new.self.items c.extend_from_slice.new.self.items c.as_slice.result.now
    c.len-in-loop-list.result c.loop-list.list-index c.args.lists.now c.list-item.result c.loop-list.invariant c.loop-list-test.true c.list-item.is
    c.as_slice.ensures c.in_ok-extend_from_slice.ensures.items c.in_ok-push.ensures.items (omega (arith, c.len-in-loop-list.ensures))
