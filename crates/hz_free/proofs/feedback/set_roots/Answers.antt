-- The next variable has the root.
use Rattle.std.proofs.Common.{arith, get_or}
use Rattle.hz_lists.proofs.ListedLemmas.{listed-at}
use Rattle.hz_free.proofs.NotedValues.{value-more}
use Rattle.hz_free.proofs.feedback.set_roots.Goals as goal

pub bounds-roots-var : goal.bounds-roots-var
bounds-roots-var c =
    let few = c.requires (get_or c.args.path.now c.loop-var.var-index 0) (listed-at c.args.path.now c.loop-var.var-index c.loop-var-test.true) in
    let long = c.loop-var.auto.roots in
    omega arith

pub loop-var-preserved : goal.loop-var-preserved
loop-var-preserved c =
    let few = c.requires (get_or c.args.path.now c.loop-var.var-index 0) (listed-at c.args.path.now c.loop-var.var-index c.loop-var-test.true) in
    let long = c.loop-var.auto.roots in
    value-more c.args.path.now c.loop-var.var-index c.args.root c.args.roots.now c.loop-var.roots c.loop-var-test.true (omega arith) c.loop-var.invariant
