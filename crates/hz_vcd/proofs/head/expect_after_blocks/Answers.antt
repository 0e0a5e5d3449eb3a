-- One block after the other, up to the word.
use Rattle.std.proofs.Common.{[], length, ap, arith}
use Rattle.hz_vcd.specs.Reading.{Blocks, BlockEnd, Steps}
use Rattle.hz_vcd.specs.declared.fault.VcdFault.TheVariants as fault
use Rattle.hz_vcd.proofs.ReadingLaws.{past-none, past-past, past-fails, past-shorter, reads-exit, some-goes}
use Rattle.hz_vcd.proofs.HeadLaws.{blocks-goes, blocks-end, blocks-word, blocks-wrong, blocks-open, equal-word, differing-word}
use Rattle.hz_vcd.proofs.head.expect_after_blocks.Goals as goal

pub loop-word-init : goal.loop-word-init
loop-word-init c = λ next goes. past-none (Blocks c.args.wanted.now next) c.args.words.now

pub returns-in_default : goal.returns-in_default
returns-in_default c = λ next goes.
    let whole = Blocks c.args.wanted.now next in
    past-fails whole c.args.words.now whole c.loop-word.words (fault.Form c.number-token.result) (c.loop-word.invariant next goes)
    (blocks-end c.args.wanted.now next goes c.loop-word.words c.number-token.result c.in_default.ensures.0 c.number-token.ensures.number)

pub returns-then-eq : goal.returns-then-eq
returns-then-eq c = λ next goes.
    let whole = Blocks c.args.wanted.now next in
    past-past whole c.args.words.now whole c.loop-word.words next c.next.new.self (c.loop-word.invariant next goes)
    (blocks-word c.args.wanted.now next c.loop-word.words c.next.new.self c.in-Some.word.now c.requires c.in-Some.ensures.0 c.in-Some.ensures.1 (equal-word c.in-Some.word.now c.args.wanted.now c.if-eq.ensures))

pub returns-then-not-opens_block : goal.returns-then-not-opens_block
returns-then-not-opens_block c = λ next goes.
    let whole = Blocks c.args.wanted.now next in
    past-fails whole c.args.words.now whole c.loop-word.words (fault.Form c.number-token.result) (c.loop-word.invariant next goes)
    (blocks-wrong c.args.wanted.now next goes c.loop-word.words c.number-token.result c.in-Some.word.now _ c.in-Some.ensures.0 c.number-token.ensures.number
    (differing-word c.in-Some.word.now c.args.wanted.now c.if-eq.ensures) c.if-not-opens_block.ensures)

pub returns-in_err-read_block : goal.returns-in_err-read_block
returns-in_err-read_block c = λ next goes.
    let whole = Blocks c.args.wanted.now next in
    let opened = past-past whole c.args.words.now whole c.loop-word.words (BlockEnd whole) c.next.new.self (c.loop-word.invariant next goes)
    (blocks-open c.args.wanted.now next c.loop-word.words c.next.new.self c.in-Some.word.now c.if-not-opens_block.ensures
    (differing-word c.in-Some.word.now c.args.wanted.now c.if-eq.ensures) c.in-Some.ensures.0 c.in-Some.ensures.1) in
    let why = c.in_err-read_block.field-0.0 in
    reads-exit why whole c.args.words.now next c.read_block.new.words c.from_residual.result c.from_residual.ensures.1
    (past-fails whole c.args.words.now (BlockEnd whole) c.next.new.self why opened (c.in_err-read_block.ensures whole (blocks-goes c.args.wanted.now next goes)))

pub loop-word-preserved : goal.loop-word-preserved
loop-word-preserved c = λ next goes.
    let whole = Blocks c.args.wanted.now next in
    let opened = past-past whole c.args.words.now whole c.loop-word.words (BlockEnd whole) c.next.new.self (c.loop-word.invariant next goes)
    (blocks-open c.args.wanted.now next c.loop-word.words c.next.new.self c.in-Some.word.now c.if-not-opens_block.ensures
    (differing-word c.in-Some.word.now c.args.wanted.now c.if-eq.ensures) c.in-Some.ensures.0 c.in-Some.ensures.1) in
    past-past whole c.args.words.now (BlockEnd whole) c.next.new.self whole c.read_block.new.words opened (c.in_ok-read_block.ensures whole (blocks-goes c.args.wanted.now next goes))

pub loop-word-smaller : goal.loop-word-smaller
loop-word-smaller c =
    let behind = past-shorter (BlockEnd (Steps 0 [])) c.next.new.self (Steps 0 []) c.read_block.new.words (c.in_ok-read_block.ensures (Steps 0 []) some-goes) in
    omega (arith, behind, ap length c.in-Some.ensures.0)
