use Rattle.std.proofs.Common.{◌<◌, ◌∙◌, arith}
use Rattle.std.specs.List.{prefix_len}
use Rattle.hz_line.specs.Byte.{is_word_byte}
use Rattle.hz_line.proofs.TokenLemmas.{tokens_of-word, IsTokenAndRest-begins_in_word, begins_in_word-prefix, PastBlanks-so}
use Rattle.hz_line.proofs.tokens.first_word.Goals as goal

pub returns-else-len-eq0-clause-tokens : goal.returns-else-len-eq0-clause-tokens
returns-else-len-eq0-clause-tokens c =
    let rest = c.trim_start-rest.result.now in
    let some : 0 < prefix_len is_word_byte rest = omega (arith, c.word_len-len.ensures.value) in
    let found = tokens_of-word rest (begins_in_word-prefix rest some) in (
      c.trim_start-rest.ensures.same ∙ rw (c.split_at.ensures.front, c.split_at.ensures.back, c.word_len-len.ensures.value) found,
      omega (arith, c.trim_start-rest.ensures.within, c.split_at.ensures.back_len),
    )

pub returns-else-len-eq0-clause-first : goal.returns-else-len-eq0-clause-first
returns-else-len-eq0-clause-first c =
    let rest = c.trim_start-rest.result.now in
    let some : 0 < prefix_len is_word_byte rest = omega (arith, c.word_len-len.ensures.value) in
    let split = IsTokenAndRest-begins_in_word rest (begins_in_word-prefix rest some) in
    PastBlanks-so _ c.args.line.now rest c.trim_start-rest.ensures.front (rw (c.split_at.ensures.front, c.split_at.ensures.back, c.word_len-len.ensures.value) split)
