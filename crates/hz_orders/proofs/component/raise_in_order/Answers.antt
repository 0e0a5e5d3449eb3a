-- What was due may have been raised first.
use Rattle.std.proofs.Common.{sym, subst}
use Rattle.hz_orders.specs.Telling.{AreToldSoFar}
use Rattle.hz_orders.proofs.component.raise_in_order.Goals.{then-part-raising+in_ok-raise_due, else-part-raising}
use Rattle.hz_orders.proofs.component.raise_in_order.Goals as goal

pub returns-in_err-add : goal.returns-in_err-add
returns-in_err-add c =
    elim c.if-part-raising.branch [
      | then-part-raising+in_ok-raise_due w ↦ subst (AreToldSoFar c.args.telling.now) (sym w.told-is) w.raise_due.ensures
      | else-part-raising w ↦ subst (AreToldSoFar c.args.telling.now) (sym w.told-is) c.loop-part-2.invariant
    ]

pub loop-part-2-preserved : goal.loop-part-2-preserved
loop-part-2-preserved c =
    elim c.if-part-raising.branch [
      | then-part-raising+in_ok-raise_due w ↦ subst (AreToldSoFar c.args.telling.now) (sym w.told-is) w.raise_due.ensures
      | else-part-raising w ↦ subst (AreToldSoFar c.args.telling.now) (sym w.told-is) c.loop-part-2.invariant
    ]
