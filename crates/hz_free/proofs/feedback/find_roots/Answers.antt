-- The next variable has a root, or it chooses nothing.
use Rattle.std.proofs.Common.{◌≡◌, ◌∙◌, None, get_or, ap, sym}
use Rattle.std.specs.Option.{is_some}
use Rattle.hz_free.proofs.PathLemmas.{read-link}
use Rattle.hz_free.proofs.Roots.{rooted-skip}
use Rattle.hz_free.proofs.FollowedPaths.{none-from, some-from}
use Rattle.hz_free.proofs.feedback.find_roots.Goals as goal
use Rattle.hz_free.proofs.feedback.find_roots.Goals.{then-is_some+in-Ok, else-is_some}

pub find_root-requires-clause-start : goal.find_root-requires-clause-start
find_root-requires-clause-start c =
    let read : c.get.result ≡ get_or c.args.choices.now c.loop-var.var None =
    c.get.ensures ∙ read-link c.args.choices.now c.loop-var.var c.index-choices-var.result c.loop-var-test.true c.index-choices-var.is in
    some-from c.args.choices.now c.loop-var.var (ap is_some (sym read) ∙ sym c.if-is_some.ensures)

pub loop-var-preserved : goal.loop-var-preserved
loop-var-preserved c =
    let read : c.get.result ≡ get_or c.args.choices.now c.loop-var.var None =
    c.get.ensures ∙ read-link c.args.choices.now c.loop-var.var c.index-choices-var.result c.loop-var-test.true c.index-choices-var.is in
    elim c.if-is_some.branch [
      | then-is_some+in-Ok w ↦ rw (w.choosers-is, w.roots-is) w.in-Ok.ensures
      | else-is_some w ↦
          rw (w.choosers-is, w.roots-is)
          (rooted-skip c.args.choices.now c.loop-var.choosers c.loop-var.roots c.loop-var.var c.loop-var.invariant (sym read ∙ none-from _ (sym w.if-is_some.ensures)))
    ]
