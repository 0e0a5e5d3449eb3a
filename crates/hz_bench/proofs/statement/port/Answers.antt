use Rattle.std.proofs.Common.{◌∙◌, sym, refl, lit<}
use Rattle.hz_bench.proofs.StatementLemmas.{port_long, head_words, bare-some}
use Rattle.hz_bench.proofs.statement.port.Goals as goal

pub invariant_of-result : goal.invariant_of-result
invariant_of-result c =
    let bare = sym c.is_blank_line.ensures ∙ c.if-not-is_blank_line.false in
    let words = head_words c.args.text.now c.args.head.now c.requires.tokens (bare-some _ bare) in
    record {
      worded = words.1;
      sourced = refl;
      listed = refl;
      counted = refl;
      small = lit< tt;
      measured = c.is_long.ensures ∙ sym (port_long c.args.head.now.second.now);
    }
