-- One word more.
use Rattle.std.proofs.Common.{arith}
use Rattle.hz_bounds.proofs.Known.{filled-more}
use Rattle.hz_bounds.proofs.telling.fill.Goals as goal

pub loop-var-preserved : goal.loop-var-preserved
loop-var-preserved c =
    filled-more c.args.telling.now c.args.changes c.loop-var.told c.loop-var.var c.unwrap_or.result c.known.result c.loop-var.invariant
    (omega (arith, c.loop-var-test.true, c.loop-var.auto.told, c.loop-var.auto.var-end, c.len-var-end.ensures.variables, c.requires.told)) c.known.ensures c.unwrap_or.ensures
