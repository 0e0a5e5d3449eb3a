-- The first word, and then the later ones.
use Rattle.hz_vcd.specs.Word.{words_of}
use Rattle.hz_vcd.specs.Reading.{Blocks, all_words}
use Rattle.hz_vcd.proofs.ReadingLaws.{past-reads, reads-exit}
use Rattle.hz_vcd.proofs.HeadLaws.{all-goes}
use Rattle.hz_vcd.proofs.head.expect_command.Goals as goal

pub returns-in_err-expect_after_blocks : goal.returns-in_err-expect_after_blocks
returns-in_err-expect_after_blocks c = λ next goes.
    let rest = all_words (words_of c.args.later.now) next in
    let why = c.in_err-expect_after_blocks.field-0.0 in
    reads-exit why (Blocks c.args.first.now rest) c.args.words.now next c.expect_after_blocks.new.words c.from_residual.result c.from_residual.ensures.1
    (c.in_err-expect_after_blocks.ensures rest (all-goes (words_of c.args.later.now) next goes))

pub returns : goal.returns
returns c = λ next goes.
    let rest = all_words (words_of c.args.later.now) next in
    past-reads (Blocks c.args.first.now rest) c.args.words.now rest c.expect_after_blocks.new.words next c.expect_all.new.words c.expect_all.result
    (c.in_ok-expect_after_blocks.ensures rest (all-goes (words_of c.args.later.now) next goes)) (c.expect_all.ensures next goes)
