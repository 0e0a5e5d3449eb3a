-- One variable more.
use Rattle.std.proofs.Common.{◌∙◌, ◌+◌, ◌∷◌, [], List, ℕ, get_or, take, drop, refl, sym, ap, subst, arith}
use Rattle.std.proofs.lemmas.List.{take-append-drop, drop_more, drop_all, length-set}
use Rattle.hz_lists.specs.Listed.{IsRepeatFree}
use Rattle.hz_lists.proofs.ListedLemmas.{is_repeat_free-right}
use Rattle.hz_reach.specs.Spread.{changes_in}
use Rattle.hz_witness.proofs.Counted.{count-more, changes-nothing}
use Rattle.hz_orders.proofs.check.count_step.Goals as goal

pub loop-var-init : goal.loop-var-init
loop-var-init c = λ i few. refl

pub loop-var-preserved : goal.loop-var-preserved
loop-var-preserved c = λ i few.
    let flips = c.args.flips.now in
    let place = c.loop-var.var-index in
    let rest = drop_more flips place 0 c.loop-var-test.true in
    let once : IsRepeatFree (get_or flips place 0 ∷ drop (place + 1) flips) =
    subst IsRepeatFree rest (is_repeat_free-right (take place flips) (drop place flips) (subst IsRepeatFree (sym (take-append-drop place flips)) c.requires.once)) in
    let inside = c.requires.inside place 0 c.loop-var-test.true in
    let long = c.loop-var.auto.counts in
    let same = length-set c.loop-var.counts (get_or flips place 0) c.in-Some.more in
    let before = c.loop-var.invariant i (omega (arith, few, same)) in
    count-more c.loop-var.counts (drop (place + 1) flips) i (get_or flips place 0) c.in-Some.more (omega (arith, inside, long)) once.0 (omega arith)
    ∙ (ap (λ (list : List ℕ). get_or c.loop-var.counts i 0 + changes_in (list ∷ []) i) (sym rest) ∙ before)

pub returns : goal.returns
returns c = λ _ i few.
    let none = changes-nothing i in
    let left = ap (λ (list : List ℕ). changes_in (list ∷ []) i) (drop_all c.loop-var.var-index c.args.flips.now c.loop-var-test.false) in
    let whole = c.loop-var.invariant i (omega (arith, few)) in
    omega (arith, none, left, whole)
