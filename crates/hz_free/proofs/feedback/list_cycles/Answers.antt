-- The next variable begins a cycle, or it has none that is not listed.
use Rattle.std.proofs.Common.{arith, ◌≡◌, ◌<◌, ◌∙◌, None, length, get_or, not, sym, ap}
use Rattle.std.specs.Option.{is_some}
use Rattle.hz_free.proofs.Numbering.{numbered-skip, numbered-more, listed-few}
use Rattle.hz_free.proofs.FollowedPaths.{none-from, some-from}
use Rattle.hz_free.proofs.PathLemmas.{link-not-none, read-link}
use Rattle.hz_free.proofs.feedback.list_cycles.Goals as goal
use Rattle.hz_free.proofs.feedback.list_cycles.Goals.{then-is_some+then-is_none+in-Ok, else-is_some, else-is_some-via-then-is_some+else-is_none, else-is_some-via-else-is_some}

pub list_cycle-requires-clause-first : goal.list_cycle-requires-clause-first
list_cycle-requires-clause-first c =
    let read : c.get.result ≡ get_or c.args.choosers.now c.loop-var.var None =
    c.get.ensures ∙ read-link c.args.choosers.now c.loop-var.var c.index-choosers-var.result c.loop-var-test.true c.index-choosers-var.is in
    some-from c.args.choosers.now c.loop-var.var (ap is_some (sym read) ∙ sym c.if-is_some.ensures)

pub loop-var-preserved : goal.loop-var-preserved
loop-var-preserved c =
    let few : c.loop-var.var < length c.loop-var.numbers = omega (arith, c.loop-var-test.true, c.loop-var.auto.numbers, c.requires.numbers.long) in
    let chooser : c.get.result ≡ get_or c.args.choosers.now c.loop-var.var None =
    c.get.ensures ∙ read-link c.args.choosers.now c.loop-var.var c.index-choosers-var.result c.loop-var-test.true c.index-choosers-var.is in
    elim c.if-is_some.branch [
      | then-is_some+then-is_none+in-Ok w ↦
          let listed = w.in-Ok.ensures in
          let number : w.get-then-is_some.result ≡ get_or c.loop-var.numbers c.loop-var.var None =
          w.get-then-is_some.ensures ∙ read-link c.loop-var.numbers c.loop-var.var w.index-numbers-var.result few w.index-numbers-var.is in
          rw (w.numbers-is, w.cycles-is)
          (
          record {
            few = listed-few c.args.choosers.now c.loop-var.var c.loop-var.numbers c.loop-var.cycles w.list_cycle.new.numbers w.list_cycle.new.cycles c.loop-var.var listed c.loop-var.invariant.few;
            numbered =
                λ net are.
                numbered-more net c.args.choosers.now c.loop-var.numbers w.list_cycle.new.numbers c.loop-var.var c.loop-var.cycles w.list_cycle.new.cycles
                are (c.loop-var.invariant.numbered net are) (sym number ∙ none-from w.get-then-is_some.result (w.is_none.ensures ∙ ap not w.if-is_none.true)) listed;
          }
          )
      | else-is_some w ↦
          rw (w.numbers-is, w.cycles-is)
          (
          record {
            few = let few = c.loop-var.invariant.few in omega arith;
            numbered =
                λ net are.
                numbered-skip net c.args.choosers.now c.loop-var.numbers c.loop-var.var c.loop-var.cycles (c.loop-var.invariant.numbered net are)
                (λ link.
                elim w.else-is_some.branch [
                  | else-is_some-via-then-is_some+else-is_none w' ↦
                      let number : w'.get-then-is_some.result ≡ get_or c.loop-var.numbers c.loop-var.var None =
                      w'.get-then-is_some.ensures ∙ read-link c.loop-var.numbers c.loop-var.var w'.index-numbers-var.result few w'.index-numbers-var.is in
                      some-from c.loop-var.numbers c.loop-var.var (ap is_some (sym number) ∙ (w'.is_none.ensures ∙ ap not w'.if-is_none.false))
                  | else-is_some-via-else-is_some w' ↦ absurd (link-not-none c.args.choosers.now c.loop-var.var (sym chooser ∙ none-from c.get.result (sym w'.if-is_some.ensures)) link)
                ]);
          }
          )
    ]
