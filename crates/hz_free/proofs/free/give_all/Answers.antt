-- The next variable has the word.
use Rattle.std.proofs.Common.{arith, get_or, subst, sym, map, take, List, Option, ◌+◌, ◌<◌, length}
use Rattle.std.proofs.lemmas.List.{length-map}
use Rattle.hz_word.specs.declared.word.Word.{Word}
use Rattle.hz_lists.proofs.ListedLemmas.{listed-at}
use Rattle.hz_free.specs.Paths.{HaveValue}
use Rattle.hz_free.proofs.NotedValues.{value-more}
use Rattle.hz_free.proofs.free.give_all.Goals as goal

pub keep-requires : goal.keep-requires
keep-requires g c =
    let few = c.requires (get_or c.args.variables.now c.loop-var.var-index 0) (listed-at c.args.variables.now c.loop-var.var-index c.loop-var-test.true) in
    let long = c.loop-var.auto.out in
    omega arith

pub loop-var-preserved : goal.loop-var-preserved
loop-var-preserved g c =
    let few = c.requires (get_or c.args.variables.now c.loop-var.var-index 0) (listed-at c.args.variables.now c.loop-var.var-index c.loop-var-test.true) in
    let long = c.loop-var.auto.out in
    let inside : get_or c.args.variables.now c.loop-var.var-index 0 < length (map g.S.StoredWord.word_in c.loop-var.out) = omega (arith, few, long, length-map c.loop-var.out g.S.StoredWord.word_in) in
    subst (λ (told : List (Option Word)). HaveValue (take (c.loop-var.var-index + 1) c.args.variables.now) (g.S.StoredWord.word_in c.args.word) (map g.S.StoredWord.word_in c.args.out.now) told)
    (sym c.keep.ensures)
    (value-more c.args.variables.now c.loop-var.var-index (g.S.StoredWord.word_in c.args.word) (map g.S.StoredWord.word_in c.args.out.now) (map g.S.StoredWord.word_in c.loop-var.out) c.loop-var-test.true inside c.loop-var.invariant)
