-- One word of the block after the other, up to its end.
use Rattle.hz_vcd.specs.Reading.{BlockEnd}
use Rattle.hz_vcd.specs.declared.fault.VcdFault.TheVariants as fault
use Rattle.hz_vcd.proofs.ReadingLaws.{past-none, past-past, past-fails}
use Rattle.hz_vcd.proofs.HeadLaws.{block-end, block-last, block-inside}
use Rattle.hz_vcd.proofs.head.read_block.Goals as goal

pub loop-word-init : goal.loop-word-init
loop-word-init c = λ next. past-none (BlockEnd next) c.args.words.now

pub returns-in_default : goal.returns-in_default
returns-in_default c = λ next goes.
    past-fails (BlockEnd next) c.args.words.now (BlockEnd next) c.loop-word.words (fault.Form c.number-token.result) (c.loop-word.invariant next)
    (block-end next goes c.loop-word.words c.number-token.result c.in_default.ensures.0 c.number-token.ensures.number)

pub returns-then-is_word : goal.returns-then-is_word
returns-then-is_word c = λ next goes.
    past-past (BlockEnd next) c.args.words.now (BlockEnd next) c.loop-word.words next c.next.new.self (c.loop-word.invariant next)
    (block-last next c.loop-word.words c.next.new.self c.in-Some.word.now c.in-Some.ensures.0 c.in-Some.ensures.1 c.if-is_word.ensures)

pub loop-word-preserved : goal.loop-word-preserved
loop-word-preserved c = λ next.
    past-past (BlockEnd next) c.args.words.now (BlockEnd next) c.loop-word.words (BlockEnd next) c.next.new.self (c.loop-word.invariant next)
    (block-inside next c.loop-word.words c.next.new.self c.in-Some.word.now c.in-Some.ensures.0 c.in-Some.ensures.1 c.if-is_word.ensures)
