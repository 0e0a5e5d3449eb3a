-- The path came around, or it ends in a variable that has a root.
use Rattle.std.proofs.Common.{sym, subst}
use Rattle.hz_free.specs.Paths.{HasRoot}
use Rattle.hz_free.proofs.PathLemmas.{read-link}
use Rattle.hz_free.proofs.NotedValues.{place-at, listed-part, root-new, root-old}
use Rattle.hz_free.proofs.feedback.root_of.Goals as goal

pub note_choosers-requires-clause-cycle : goal.note_choosers-requires-clause-cycle
note_choosers-requires-clause-cycle c =
    let at = place-at c.args.path.now c.in-Some.place c.args.end (sym c.in-Some.ensures) in
    λ i there. c.requires.path i (listed-part c.args.path.now c.in-Some.place c.args.end i at.0 at.1 there)

pub returns-in-Some : goal.returns-in-Some
returns-in-Some c =
    rw c.to.ensures
    (root-new c.args.choices.now c.args.path.now c.args.end c.in-Some.place c.args.choosers.now c.note_choosers.new.choosers c.args.roots.now
    (sym c.in-Some.ensures) c.note_choosers.ensures)

pub returns-in-None : goal.returns-in-None
returns-in-None c =
    subst (HasRoot c.args.choices.now c.args.path.now c.args.end c.args.choosers.now c.args.choosers.now c.args.roots.now)
    (sym (read-link c.args.roots.now c.args.end c.index-roots-end.result c.requires.end c.index-roots-end.is))
    (root-old c.args.choices.now c.args.path.now c.args.end c.args.choosers.now c.args.roots.now (sym c.in-None.ensures))
