use Rattle.std.proofs.Common.{◌∙◌, ◌+◌, ◌<◌, ap, arith, false, inl, inr, length, subst, sym, Option, List, ℕ}
use Rattle.std.specs.Borrow.{Bor}
use Rattle.hz_line.specs.Line.{lines_of_rest}
use Rattle.hz_blif.specs.Line.{line_of_words}
use Rattle.hz_blif.specs.Reading.{bytes_of, line_by}
use Rattle.hz_blif.specs.Text.{joined_from}
use Rattle.hz_blif.proofs.LoopSteps.{IsReading, left-shorter, reading-begin, reading-fault, reading-left, reading-more, reading-short}
use Rattle.hz_blif.proofs.reading.read_draft.Goals as goal

pub loop-rest-init : goal.loop-rest-init
loop-rest-init c = reading-begin c.args.text c.new-draft.result c.new-course.result c.new-draft.ensures c.new-course.ensures

pub read_line-requires : goal.read_line-requires
read_line-requires c =
    let was = subst (λ (rest : Option (Bor (List ℕ))). IsReading c.args.text.now c.loop-rest.draft c.loop-rest.course c.loop-rest.number rest) c.in-Some.is c.loop-rest.invariant in
    reading-left c.args.text.now c.loop-rest.draft c.loop-rest.course c.loop-rest.number c.in-Some.left c.requires was

pub add-requires-clause-going : goal.add-requires-clause-going
add-requires-clause-going c = reading-short c.args.text.now c.loop-rest.draft c.loop-rest.course c.loop-rest.number c.loop-rest.rest c.requires c.loop-rest.invariant

pub overflow_add-number : goal.overflow_add-number
overflow_add-number c =
    let was = subst (λ (rest : Option (Bor (List ℕ))). IsReading c.args.text.now c.loop-rest.draft c.loop-rest.course c.loop-rest.number rest) c.in-Some.is c.loop-rest.invariant in
    let lines = was.lines in
    omega (arith, lines, c.in-Ok.ensures.counted, c.requires)

pub loop-rest-preserved : goal.loop-rest-preserved
loop-rest-preserved c =
    let was = subst (λ (rest : Option (Bor (List ℕ))). IsReading c.args.text.now c.loop-rest.draft c.loop-rest.course c.loop-rest.number rest) c.in-Some.is c.loop-rest.invariant in
    reading-more c.args.text.now c.loop-rest.draft c.add.new.self c.loop-rest.course c.with-course.result c.loop-rest.number c.in-Some.left c.read_line.new.tokens.items c.in-Ok.joined
    (line_by c.line_of-line.result) c.refuses.result was c.in-Ok.ensures.joined c.in-Ok.ensures.counted c.if-joined.false
    (c.line_of-line.ensures ∙ ap (λ tokens. line_of_words (bytes_of tokens)) c.as_slice.ensures.value) c.if-refuses.false c.refuses.ensures.refuses c.with-course.ensures c.in-Ok-add.ensures

pub loop-rest-smaller : goal.loop-rest-smaller
loop-rest-smaller c =
    subst (λ (rest : Option (Bor (List ℕ))). length (joined_from (c.loop-rest.number + c.in-Ok.joined.lines) (lines_of_rest c.in-Ok.joined.rest)) < length (joined_from c.loop-rest.number (lines_of_rest rest)))
    (sym c.in-Some.is) (left-shorter c.loop-rest.number c.in-Some.left c.read_line.new.tokens.items c.in-Ok.joined c.in-Ok.ensures.joined)

pub close_cover-requires : goal.close_cover-requires
close_cover-requires c = reading-short c.args.text.now c.loop-rest.draft c.loop-rest.course c.loop-rest.number c.loop-rest.rest c.requires c.loop-rest.invariant

pub returns-then-joined : goal.returns-then-joined
returns-then-joined c =
    let was = subst (λ (rest : Option (Bor (List ℕ))). IsReading c.args.text.now c.loop-rest.draft c.loop-rest.course c.loop-rest.number rest) c.in-Some.is c.loop-rest.invariant in
    inr (reading-fault c.args.text.now c.loop-rest.draft c.loop-rest.course c.loop-rest.number c.in-Some.left c.read_line.new.tokens.items c.in-Ok.joined (line_by c.line_of-line.result) false was c.in-Ok.ensures.joined
    (c.line_of-line.ensures ∙ ap (λ tokens. line_of_words (bytes_of tokens)) c.as_slice.ensures.value) (inl c.if-joined.true))

pub returns-then-refuses : goal.returns-then-refuses
returns-then-refuses c =
    let was = subst (λ (rest : Option (Bor (List ℕ))). IsReading c.args.text.now c.loop-rest.draft c.loop-rest.course c.loop-rest.number rest) c.in-Some.is c.loop-rest.invariant in
    inr (reading-fault c.args.text.now c.loop-rest.draft c.loop-rest.course c.loop-rest.number c.in-Some.left c.read_line.new.tokens.items c.in-Ok.joined (line_by c.line_of-line.result) c.refuses.result was c.in-Ok.ensures.joined
    (c.line_of-line.ensures ∙ ap (λ tokens. line_of_words (bytes_of tokens)) c.as_slice.ensures.value) (inr (c.if-refuses.true, c.refuses.ensures.refuses)))
