-- One word after the other.
use Rattle.std.proofs.Common.{ℕ, List}
use Rattle.std.proofs.Common.{subst, sym}
use Rattle.hz_vcd.specs.Word.{words_of}
use Rattle.hz_vcd.specs.Reading.{Past, Fails, all_words}
use Rattle.hz_vcd.proofs.ReadingLaws.{past-none, past-past, past-fails, reads-exit}
use Rattle.hz_vcd.proofs.HeadLaws.{all-goes}
use Rattle.hz_vcd.proofs.head.expect_all.Goals as goal

pub loop-word-init : goal.loop-word-init
loop-word-init c = λ next goes. past-none (all_words (words_of c.args.text.now) next) c.args.words.now

pub loop-word-preserved : goal.loop-word-preserved
loop-word-preserved c = λ next goes.
    let whole = all_words (words_of c.args.text.now) next in
    let rest = all_words (words_of c.in-Some.rest.now) next in
    past-past whole c.args.words.now (all_words (words_of c.loop-word.left.now) next) c.loop-word.words rest c.expect.new.words
    (c.loop-word.invariant next goes)
    (subst (λ (ws : List (List ℕ)). Past (all_words ws next) c.loop-word.words rest c.expect.new.words) (sym c.in-Some.ensures.0)
    (c.in_ok-expect.ensures rest (all-goes (words_of c.in-Some.rest.now) next goes)))

pub returns-in_err-expect : goal.returns-in_err-expect
returns-in_err-expect c = λ next goes.
    let whole = all_words (words_of c.args.text.now) next in
    let rest = all_words (words_of c.in-Some.rest.now) next in
    let why = c.in_err-expect.field-0.0 in
    reads-exit why whole c.args.words.now next c.expect.new.words c.from_residual.result c.from_residual.ensures.1
    (past-fails whole c.args.words.now (all_words (words_of c.loop-word.left.now) next) c.loop-word.words why
    (c.loop-word.invariant next goes)
    (subst (λ (ws : List (List ℕ)). Fails (all_words ws next) c.loop-word.words why) (sym c.in-Some.ensures.0)
    (c.in_err-expect.ensures rest (all-goes (words_of c.in-Some.rest.now) next goes))))

pub returns : goal.returns
returns c = λ next goes.
    subst (λ (ws : List (List ℕ)). Past (all_words (words_of c.args.text.now) next) c.args.words.now (all_words ws next) c.loop-word.words) c.in_default.ensures
    (c.loop-word.invariant next goes)
