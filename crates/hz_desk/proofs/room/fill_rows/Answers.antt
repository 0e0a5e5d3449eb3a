-- The rows are those of the lists that were written, which are known of the change.
use Rattle.std.proofs.Common.{◌≡◌, ◌∙◌, sym, ap, subst, Bool, Option, List, length, arith}
use Rattle.std.specs.Vec.{with_items}
use Rattle.std.proofs.lemmas.List.{with_items_is}
use Rattle.hz_core.specs.declared.tri.Tri.{Tri}
use Rattle.hz_net.specs.Network.{network_of}
use Rattle.hz_word.specs.declared.word.Word.{Word}
use Rattle.hz_desk.specs.declared.finding.Row.{Row}
use Rattle.hz_desk.specs.Finding.{values_a, values_b}
use Rattle.hz_desk.specs.Filled.{AreRowsOfChange}
use Rattle.hz_desk.specs.ResultsOfPasses.{ArePassResults}
use Rattle.hz_desk.specs.Rows.{MayBeRows}
use Rattle.hz_desk.proofs.RowFacts.{may-be-rows}
use Rattle.hz_desk.proofs.RowLists.{length-rows, same-rows, results-in-rows, rows-of-change}
use Rattle.hz_desk.proofs.room.fill_rows.Goals as goal

pub copy_from_slice-requires : goal.copy_from_slice-requires
copy_from_slice-requires c =
    let rows = c.rows.inside in
    omega (arith, ap length c.as_mut_slice.ensures.value, length-rows rows.start.items rows.a.items rows.b.items rows.words.items, ap length c.rows.view_is, c.requires.rows, c.requires.start.long)

pub words_given_a-requires-clause-a : goal.words_given_a-requires-clause-a
words_given_a-requires-clause-a c =
    let was = c.rows.inside in
    let a : List Tri = c.make-rounds.new.a in
    let passed = c.make-rounds.ensures.passed in
    let a_is : (with_items was.a a).items ≡ a = with_items_is was.a a (omega (arith, c.make-rounds.auto.a, c.as_mut_slice-2.ensures.len)) in (
      c.make-rounds.result.a,
      passed.a_rounds,
      c.as_slice.ensures.value ∙ (a_is ∙ passed.a_result),
    )

pub returns : goal.returns
returns c =
    let netlist = c.args.change.now.net.now in
    let net = network_of netlist in
    let input = c.args.change.now.input.now in
    let was = c.rows.inside in
    let start : List Bool = c.args.change.now.start.now in
    let a : List Tri = c.make-rounds.new.a in
    let b : List Tri = c.make-rounds.new.b in
    let words : List (Option Word) = c.words_given_a.new.out in
    let passes = c.make-rounds.new.self in
    let rounds = c.make-rounds.result in
    let start_is : (with_items was.start c.copy_from_slice.new.self).items ≡ start =
    with_items_is was.start c.copy_from_slice.new.self (omega (arith, c.copy_from_slice.auto.self, c.as_mut_slice.ensures.len)) ∙ c.copy_from_slice.ensures.after in
    let a_is : (with_items was.a a).items ≡ a = with_items_is was.a a (omega (arith, c.make-rounds.auto.a, c.as_mut_slice-2.ensures.len)) in
    let b_is : (with_items was.b b).items ≡ b = with_items_is was.b b (omega (arith, c.make-rounds.auto.b, c.as_mut_slice-3.ensures.len)) in
    let words_are : (with_items was.words words).items ≡ words = with_items_is was.words words (omega (arith, c.words_given_a.auto.out, c.as_mut_slice-4.ensures.len)) in
    let same = same-rows start a b words (with_items was.start c.copy_from_slice.new.self).items (with_items was.a a).items (with_items was.b b).items (with_items was.words words).items start_is a_is b_is words_are in
    let passed = c.make-rounds.ensures.passed in
    let may : MayBeRows (length net) start a b words =
    may-be-rows c.words_change.ensures netlist c.args.free.now.free input start c.args.cap a passes.ranks.items b passes.when.items rounds.a rounds.b words
    c.keeps_shape.ensures.circuit c.keeps_shape.ensures.whole c.requires.free.marks c.requires.start passed c.words_given_a.ensures in
    record {
      passed = subst (λ (rows : List Row). ArePassResults netlist input start (values_a rows) passes.ranks.items (values_b rows) passes.when.items rounds.a rounds.b) (sym same)
          (results-in-rows start a b words (length net) may netlist input passes.ranks.items passes.when.items rounds.a rounds.b passed);
      passes = c.make-rounds.ensures.room;
      rows = subst (AreRowsOfChange net input start c.args.cap) (sym same) (rows-of-change start a b words (length net) may net input c.args.cap c.words_given_a.ensures);
    }
