use Rattle.std.proofs.Common.{refl, arith}
use Rattle.hz_pass.proofs.Delivery.{taken-step}
use Rattle.hz_pass.proofs.forcing.take_data.Goals as goal

pub loop-cut-preserved : goal.loop-cut-preserved
loop-cut-preserved c =
    taken-step c.args.cuts.now c.args.value c.args.values.now c.loop-cut.values c.set_cut.new.values c.args.waiting.now.items c.loop-cut.waiting.items c.set_cut.new.waiting.items c.loop-cut.cut-index _ c.loop-cut.invariant c.requires.known c.loop-cut-test.true refl
    (omega (arith, c.requires.inside c.loop-cut.cut-index 0 c.loop-cut-test.true, c.loop-cut.invariant.long)) c.in_ok-set_cut.ensures
