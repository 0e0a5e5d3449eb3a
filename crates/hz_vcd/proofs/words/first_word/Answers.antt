-- The bytes before the first white one, if there are any.
use Rattle.std.proofs.Common.{◌∙◌, arith}
use Rattle.hz_vcd.proofs.FirstWords.{first-word, no-word}
use Rattle.hz_vcd.proofs.words.first_word.Goals as goal

pub returns-then-len-eq0 : goal.returns-then-len-eq0
returns-then-len-eq0 c =
    c.trim_start-rest.ensures.same ∙ no-word c.trim_start-rest.result.now c.word_len-len.result (omega arith) c.word_len-len.ensures.stops c.trim_start-rest.ensures.dark

pub returns-else-len-eq0 : goal.returns-else-len-eq0
returns-else-len-eq0 c =
    let rest = c.trim_start-rest.result.now in
    let len = c.word_len-len.result in
    let found = first-word rest len (omega arith) c.word_len-len.ensures.within c.word_len-len.ensures.passes c.word_len-len.ensures.stops in (
      c.trim_start-rest.ensures.same ∙ rw (c.split_at.ensures.front, c.split_at.ensures.back) found,
      omega (arith, c.trim_start-rest.ensures.within, c.split_at.ensures.back_len),
    )
