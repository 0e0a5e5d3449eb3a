use Rattle.std.proofs.Common.{arith}
use Rattle.hz_plane.proofs.Forwards.{evaluated-all}
use Rattle.hz_plane.proofs.forward.evaluate_all.Goals as goal

pub returns-clause-evaluated : goal.returns-clause-evaluated
returns-clause-evaluated c =
    let schedule = c.args.schedule.now in
    evaluated-all c.args.net.now c.requires.schedule.circuit schedule.order.items schedule.readers schedule.back c.requires.schedule.order c.requires.schedule.back (c.requires.schedule.forward c.requires.forward) c.loop-place.planes c.loop-place.place
    (omega (arith, c.loop-place-test.false, c.len-place-end.ensures, schedule.order.ok.0)) c.loop-place.invariant.below
