-- No word, another word than that of the first time, or the steps behind it.
use Rattle.std.proofs.Common.{◌∙◌, Bool, List, [], length, inl, inr, sym, subst}
use Rattle.std.specs.Prelude.{MatchResult}
use Rattle.std.proofs.lemmas.Bool.{eqb-true}
use Rattle.hz_gmw.specs.RunRecord.{RunRecord}
use Rattle.hz_vcd.specs.Reading.{Steps, Changes, Means, Fails}
use Rattle.hz_vcd.proofs.ReadingLaws.{match-past}
use Rattle.hz_vcd.proofs.StepLaws.{steps-wrong, steps-past}
use Rattle.hz_vcd.proofs.reading.read_steps.Goals as goal

pub returns-then-is_empty : goal.returns-then-is_empty
returns-then-is_empty c =
    steps-wrong (length c.args.start.now) c.args.start.now c.args.words.now c.number-token.result c.in-Some.word.now _ c.in-Some.ensures.0 c.number-token.ensures.number
    (inr (eqb-true (length c.args.start.now) 0 (sym c.if-is_empty.ensures)))

pub returns-then-not-is_time : goal.returns-then-not-is_time
returns-then-not-is_time c =
    steps-wrong (length c.args.start.now) c.args.start.now c.args.words.now c.number-token.result c.in-Some.word.now _ c.in-Some.ensures.0 c.number-token.ensures.number
    (inl c.if-not-is_time.ensures)

pub returns : goal.returns
returns c =
    let start = c.args.start.now in
    let n = length start in
    let same = c.as_mut_slice.ensures.value ∙ c.in_ok-state.ensures.items in
    let read = subst (λ (s : List Bool). MatchResult c.read_run.result (λ (run : RunRecord). Means (Changes (length s) s [] []) c.next.new.self s run.steps) (Fails (Changes (length s) s [] []) c.next.new.self)) same c.read_run.ensures in
    match-past (Steps n start) c.args.words.now (Changes n start [] []) c.next.new.self start (λ (run : RunRecord). run.steps) c.read_run.result
    (steps-past n start c.args.words.now c.next.new.self c.in-Some.word.now c.in-Some.ensures.0 c.in-Some.ensures.1 c.if-not-is_time.ensures) read
