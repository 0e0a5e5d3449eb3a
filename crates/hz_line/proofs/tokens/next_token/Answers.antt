use Rattle.std.proofs.Common.{◌<◌, ◌∙◌, length, ap, sym, arith}
use Rattle.hz_line.specs.Byte.{class_by}
use Rattle.hz_line.proofs.TokenLemmas.{tokens_of-word_at, IsTokenAndRest-word, PastBlanks-so}
use Rattle.hz_line.proofs.tokens.next_token.Goals as goal

pub returns-in-WordByte-clause-tokens : goal.returns-in-WordByte-clause-tokens
returns-in-WordByte-clause-tokens c =
    let rest = c.trim_start-rest.result.now in
    let more : 0 < length rest = omega arith in
    let found = tokens_of-word_at rest more (sym c.class_of.ensures ∙ ap class_by c.in-WordByte.is) in (
      c.trim_start-rest.ensures.same ∙ rw (c.split_at.ensures.front, c.split_at.ensures.back, c.word_len.ensures.value) found.0,
      omega (arith, found.1, c.trim_start-rest.ensures.within, c.word_len.ensures.value, c.split_at.ensures.back_len),
    )

pub returns-in-WordByte-clause-first : goal.returns-in-WordByte-clause-first
returns-in-WordByte-clause-first c =
    let rest = c.trim_start-rest.result.now in
    let more : 0 < length rest = omega arith in
    let split = IsTokenAndRest-word rest more (sym c.class_of.ensures ∙ ap class_by c.in-WordByte.is) in
    PastBlanks-so _ c.args.line.now rest c.trim_start-rest.ensures.front (rw (c.split_at.ensures.front, c.split_at.ensures.back, c.word_len.ensures.value) split)
