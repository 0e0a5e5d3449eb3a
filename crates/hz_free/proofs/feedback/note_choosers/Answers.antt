-- The next variable chose its choice.
use Rattle.std.proofs.Common.{arith, ◌≡◌, ◌∙◌, Some, None, length, get_or, ap, sym}
use Rattle.std.specs.Option.{is_some}
use Rattle.hz_free.proofs.PathLemmas.{link-inside, read-link}
use Rattle.hz_lists.proofs.ListedLemmas.{listed-at}
use Rattle.hz_free.proofs.NotedValues.{choosers-more}
use Rattle.hz_free.specs.Paths.{IsLink}
use Rattle.hz_free.proofs.feedback.note_choosers.Goals.{In-loop-var, After-get}
use Rattle.hz_free.proofs.feedback.note_choosers.Goals as goal

-- the next variable of the cycle has a choice
link : (c : In-loop-var) → IsLink c.args.choices.now (get_or c.args.cycle.now c.loop-var.var-index 0)
link c = c.requires.cycle _ (listed-at c.args.cycle.now c.loop-var.var-index c.loop-var-test.true)

-- which is what is read
read : (c : After-get) → (var : IsLink c.args.choices.now (get_or c.args.cycle.now c.loop-var.var-index 0)) → c.get.result ≡ Some var.0
read c var =
    c.get.ensures ∙ read-link c.args.choices.now _ c.index-choices-var.result (link-inside c.args.choices.now _ var.0 var.1) c.index-choices-var.is ∙ var.1

pub bounds-choices-var : goal.bounds-choices-var
bounds-choices-var c =
    let link = link (goal.at.bounds-choices-var c).In-loop-var in
    link-inside c.args.choices.now _ link.0 link.1

pub to-requires : goal.to-requires
to-requires c =
    let link = link (goal.at.to-requires c).In-loop-var in
    omega (arith, link-inside c.args.choices.now _ link.0 link.1, c.requires.room)

pub unwrap-choice-requires : goal.unwrap-choice-requires
unwrap-choice-requires c =
    let here = goal.at.unwrap-choice-requires c in
    ap is_some (read here.After-get (link here.In-loop-var))

pub bounds-choosers-choice : goal.bounds-choosers-choice
bounds-choosers-choice c =
    let here = goal.at.bounds-choosers-choice c in
    let link = link here.In-loop-var in
    omega (arith, c.requires.links.inside _ c.unwrap-choice.result (link.1 ∙ sym (read here.After-get link) ∙ c.unwrap-choice.ensures), c.loop-var.auto.choosers, c.requires.choosers)

pub loop-var-preserved : goal.loop-var-preserved
loop-var-preserved c =
    let here = goal.at.loop-var-preserved c in
    let link = link here.In-loop-var in
    let leads : get_or c.args.choices.now (get_or c.args.cycle.now c.loop-var.var-index 0) None ≡ Some c.unwrap-choice.result =
    link.1 ∙ sym (read here.After-get link) ∙ c.unwrap-choice.ensures in
    let few = c.requires.links.inside _ c.unwrap-choice.result leads in
    let long : length c.loop-var.choosers ≡ length c.args.choices.now = c.loop-var.auto.choosers ∙ c.requires.choosers in
    rw c.to.ensures
    (choosers-more c.args.choices.now c.args.cycle.now c.loop-var.var-index c.unwrap-choice.result c.args.choosers.now c.loop-var.choosers
    c.loop-var-test.true leads (omega (arith, few, long)) c.loop-var.invariant)
