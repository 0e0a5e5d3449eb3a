use Rattle.std.proofs.Common.{◌<◌, ◌∙◌, arith}
use Rattle.hz_blif.proofs.TokenLemmas.{tokens_of-word, tokens_of-none}
use Rattle.hz_blif.proofs.words.first_word.Goals as goal

pub returns-then-len-eq0 : goal.returns-then-len-eq0
returns-then-len-eq0 c =
    let rest = c.without_blanks-rest.result.now in
    c.without_blanks-rest.ensures.same ∙ tokens_of-none rest c.without_blanks-rest.ensures.all (omega (arith, c.word_len-len.ensures.value))

pub returns-else-len-eq0 : goal.returns-else-len-eq0
returns-else-len-eq0 c =
    let rest = c.without_blanks-rest.result.now in
    let some : 0 < c.word_len-len.result = omega arith in
    let found = tokens_of-word rest c.word_len-len.result c.word_len-len.ensures.value some in (
      c.without_blanks-rest.ensures.same ∙ rw (c.split_at.ensures.front, c.split_at.ensures.back) found,
      omega (arith, some, c.without_blanks-rest.ensures.within, c.split_at.ensures.back_len),
    )
