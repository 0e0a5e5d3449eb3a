-- The word, another word or none.
use Rattle.hz_vcd.proofs.HeadLaws.{word-end, word-wrong, word-past, same-word, other-word}
use Rattle.hz_vcd.proofs.head.expect.Goals as goal

pub returns-in_default : goal.returns-in_default
returns-in_default c = λ next goes. word-end c.args.wanted.now next goes c.args.words.now c.number-token.result c.in_default.ensures.0 c.number-token.ensures.number

pub returns-then-ne : goal.returns-then-ne
returns-then-ne c = λ next goes. word-wrong c.args.wanted.now next goes c.args.words.now c.number-token.result c.in-Some.word.now _ c.in-Some.ensures.0 c.number-token.ensures.number (other-word c.in-Some.word.now c.args.wanted.now c.if-ne.ensures)

pub returns : goal.returns
returns c = λ next goes. word-past c.args.wanted.now next c.args.words.now c.next.new.self c.in-Some.word.now c.in-Some.ensures.0 c.in-Some.ensures.1 (same-word c.in-Some.word.now c.args.wanted.now c.if-ne.ensures)
