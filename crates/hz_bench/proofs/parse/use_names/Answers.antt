use Rattle.hz_line.specs.Token.{tokens_of}
use Rattle.hz_bench.specs.Names.{source_number, with_uses}
use Rattle.hz_bench.specs.Statement.{words_in}
use Rattle.hz_bench.proofs.ReaderLemmas.{names-push, numbers-push, use-step}
use Rattle.hz_bench.proofs.StatementLemmas.{first_marked}
use Rattle.std.proofs.Common.{◌∙◌, map}
use Rattle.hz_bench.proofs.parse.use_names.Goals as goal

pub loop-source-preserved : goal.loop-source-preserved
loop-source-preserved c =
    let source = c.in-Some.source in
    let marked = first_marked (tokens_of c.loop-source.left.now) (tokens_of source.rest.now) source.word.now source.punctuation c.in-Some.ensures.0 c.loop-source.invariant.listed in
    let step = use-step c.loop-source.names c.use_name.new.self (with_uses c.args.names.now c.args.line (words_in c.args.part.now)) c.args.line c.in_ok-number.number
    source.word.now (words_in source.rest.now) (words_in c.loop-source.left.now) (map source_number c.loop-source.sources.items) (map source_number c.push.new.items.items)
    c.in_ok-number.ensures.names c.in_ok-number.ensures.number marked.0 c.loop-source.invariant.names_rest (numbers-push c.loop-source.sources.items c.push.new.items.items c.in_ok-number.number c.in_ok-push.ensures) in
    record {
      names_rest = step.0;
      numbers_rest = step.1 ∙ c.loop-source.invariant.numbers_rest;
      named = λ was. names-push c.loop-source.sources.items c.push.new.items.items c.in_ok-number.number c.in_ok-push.ensures (c.loop-source.invariant.named was);
      listed = marked.1;
    }
