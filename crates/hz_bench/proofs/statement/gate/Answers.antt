use Rattle.std.proofs.Common.{◌≡◌, ◌∙◌, ◌||◌, ap, sym, refl, arith, length}
use Rattle.std.specs.List.{list_any}
use Rattle.hz_line.specs.Statement.{Means}
use Rattle.hz_line.specs.Token.{tokens_of}
use Rattle.hz_bench.specs.Form.{statement_with}
use Rattle.hz_bench.specs.Statement.{defined_by, has_long_name, is_long, sources_of, words_in}
use Rattle.hz_bench.proofs.StatementLemmas.{IsListed-from_noted, gate_meant, head_words, listed-some, listed_marked, long_with, sources_with, stated_by, words-known}
use Rattle.hz_bench.proofs.statement.gate.Goals as goal

pub invariant_of-result : goal.invariant_of-result
invariant_of-result c =
    let list = IsListed-from_noted (tokens_of c.args.head.now.rest.now) c.in_ok-names.names (sym c.names.ensures.noted ∙ c.in_ok-names.was) in
    let words = head_words c.args.text.now c.args.head.now c.requires.tokens (listed-some _ list.names list.listed) in
    let known : words_in c.args.head.now.rest.now ≡ list.names = words-known _ list.names list.words in
    let first = c.args.head.now.first.now in
    let part = c.args.head.now.rest.now in
    let sources : sources_of (statement_with first c.form_named.result part) ≡ words_in part =
    ap (λ form. sources_of (statement_with first form part)) c.form_named.ensures ∙ sources_with first c.args.head.now.second.now part in
    record {
      worded = words.0;
      sourced = sym sources;
      listed = listed_marked (tokens_of part) list.names list.listed;
      counted = list.count ∙ ap length (sym (sources ∙ known));
      small = let few = c.in_ok-names.ensures.few in let short = c.requires.few in omega arith;
      measured = c.has_long_after.ensures ∙ ap (λ b. is_long first || b) (list.long ∙ ap (list_any is_long) (sym known))
          ∙ sym (ap (λ form. has_long_name (statement_with first form part)) c.form_named.ensures ∙ long_with first c.args.head.now.second.now part);
    }

pub returns-clause-meant : goal.returns-clause-meant
returns-clause-meant c =
    let list = IsListed-from_noted (tokens_of c.args.head.now.rest.now) c.in_ok-names.names (sym c.names.ensures.noted ∙ c.in_ok-names.was) in
    let known : words_in c.args.head.now.rest.now ≡ list.names = words-known _ list.names list.words in
    let first = c.args.head.now.first.now in
    let word = c.args.head.now.second.now in
    let part = c.args.head.now.rest.now in (
      refl,
      gate_meant c.args.text.now c.args.head.now list.names c.requires.tokens c.requires.equals c.requires.opened list.listed
          ∙ ap (λ names. Means (defined_by first word names)) (sym known)
          ∙ ap Means (sym (ap (λ form. statement_with first form part) c.form_named.ensures ∙ stated_by first word part)),
    )
