-- One variable more.
use Rattle.std.proofs.Common.{refl}
use Rattle.hz_bounds.specs.Telling.{IsEnough}
use Rattle.hz_witness.proofs.Below.{below-more}
use Rattle.hz_bounds.proofs.driven.are_inductive.Goals as goal

pub loop-var-preserved : goal.loop-var-preserved
loop-var-preserved c =
    below-more (IsEnough c.args.telling.now c.args.told.now) c.loop-var.var c.loop-var.invariant (c.if-not-is_enough.ensures refl)
