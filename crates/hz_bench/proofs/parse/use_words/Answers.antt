use Rattle.std.proofs.Common.{◌+◌, ◌∙◌, ℕ, List, ap, drop, map}
use Rattle.std.specs.Borrow.{Bor}
use Rattle.std.proofs.lemmas.List.{drop_more}
use Rattle.hz_bench.specs.Names.{source_number, with_uses}
use Rattle.hz_bench.proofs.ReaderLemmas.{names-push, numbers-push, use-step}
use Rattle.hz_bench.proofs.parse.use_words.Goals as goal

pub loop-word-preserved : goal.loop-word-preserved
loop-word-preserved c =
    let bytes : List (Bor (List ℕ)) → List (List ℕ) = λ words. map (λ word. word.now) words in
    let words = c.args.words.now in
    let k = c.loop-word.word-index in
    let step = use-step c.loop-word.names c.use_name.new.self (with_uses c.args.names.now c.args.line (bytes words)) c.args.line c.in_ok-number.number
    _ (bytes (drop (k + 1) words)) (bytes (drop k words)) (map source_number c.loop-word.sources.items) (map source_number c.push.new.items.items) c.in_ok-number.ensures.names
    c.in_ok-number.ensures.number (ap bytes (drop_more words k _ c.loop-word-test.true)) c.loop-word.invariant.names_rest (numbers-push c.loop-word.sources.items c.push.new.items.items c.in_ok-number.number c.in_ok-push.ensures) in
    record {
      names_rest = step.0;
      numbers_rest = step.1 ∙ c.loop-word.invariant.numbers_rest;
      named = λ was. names-push c.loop-word.sources.items c.push.new.items.items c.in_ok-number.number c.in_ok-push.ensures (c.loop-word.invariant.named was);
    }
