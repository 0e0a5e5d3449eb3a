-- The next variable has the number of its root.
use Rattle.std.proofs.Common.{length, arith, ◌<◌, ◌∙◌, ap, sym, subst}
use Rattle.hz_free.specs.Paths.{IsInside, core_by}
use Rattle.hz_free.proofs.PathLemmas.{read-link}
use Rattle.hz_free.proofs.NotedValues.{numbers-begin, numbers-more, root-inside}
use Rattle.hz_free.proofs.feedback.write_cores.Goals as goal

pub loop-var-init : goal.loop-var-init
loop-var-init c = numbers-begin c.args.numbers.now c.args.roots.now

pub core_at-requires : goal.core_at-requires
core_at-requires c =
    subst (IsInside (length c.args.numbers.now))
    (sym (read-link c.loop-var.roots c.loop-var.var c.index-roots-var.result (omega (arith, c.loop-var-test.true, c.loop-var.auto.roots)) c.index-roots-var.is))
    (root-inside (length c.args.numbers.now) c.args.numbers.now c.args.roots.now c.loop-var.roots c.loop-var.var c.requires c.loop-var.invariant c.loop-var-test.true)

pub loop-var-preserved : goal.loop-var-preserved
loop-var-preserved c =
    let few : c.loop-var.var < length c.loop-var.roots = omega (arith, c.loop-var-test.true, c.loop-var.auto.roots) in
    numbers-more c.args.numbers.now c.args.roots.now c.loop-var.roots c.loop-var.var c.core_at.result few
    (c.core_at.ensures ∙ ap (core_by c.args.numbers.now) (read-link c.loop-var.roots c.loop-var.var c.index-roots-var.result few c.index-roots-var.is)) c.loop-var.invariant
