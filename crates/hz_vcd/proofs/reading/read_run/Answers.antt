-- One step after the other.
use Rattle.std.proofs.Common.{◌∙◌, ℕ, Bool, List, [], ◌∷◌, ◌++◌, length, sym, ap, subst, arith}
use Rattle.std.specs.List.{All}
use Rattle.std.proofs.lemmas.List.{length_push}
use Rattle.std.proofs.lemmas.List.Elements.{All-push}
use Rattle.hz_gmw.specs.Runs.{state_after}
use Rattle.hz_gmw.proofs.Flips.{length-state_after}
use Rattle.hz_vcd.specs.Dump.{AreFlips}
use Rattle.hz_vcd.specs.Reading.{Fails, Means, Changes, StepRead}
use Rattle.hz_vcd.proofs.LineLemmas.{end_of-append}
use Rattle.hz_vcd.proofs.ReadingLaws.{past-past, past-fails, past-means, match-exit}
use Rattle.hz_vcd.proofs.StepLaws.{ends-there, at-next}
use Rattle.hz_vcd.proofs.reading.read_run.Goals as goal

pub returns-in_err-more : goal.returns-in_err-more
returns-in_err-more c =
    let start = c.args.state.now in
    let n = length start in
    let done = c.loop-run.run.steps in
    let why = c.in_err-more.field-0.0 in
    let size = c.loop-run.invariant.size in
    let all = subst (λ (m : ℕ). All (AreFlips m) done) (sym size) c.loop-run.invariant.all in
    let fails = subst (λ (m : ℕ). Fails (Changes m start done []) c.loop-run.words why) size (c.in_err-more.ensures.read start done all (sym c.loop-run.invariant.state) c.loop-run.invariant.time) in
    match-exit why (Changes n start [] []) c.args.words.now (λ run. Means (Changes n start [] []) c.args.words.now start run.steps) c.from_residual.result c.from_residual.ensures.1
    (past-fails (Changes n start [] []) c.args.words.now (Changes n start done []) c.loop-run.words why c.loop-run.invariant.past fails)

pub returns-then-not-more : goal.returns-then-not-more
returns-then-not-more c =
    let start = c.args.state.now in
    let n = length start in
    let done = c.loop-run.run.steps in
    let flips = c.read_step.new.flips.items in
    let now = c.read_step.new.words in
    let size = c.loop-run.invariant.size in
    let all = subst (λ (m : ℕ). All (AreFlips m) done) (sym size) c.loop-run.invariant.all in
    let read = subst (λ (m : ℕ). StepRead m start done flips c.loop-run.words now c.in_ok-more.more) size (c.in_ok-more.ensures.read start done all (sym c.loop-run.invariant.state) c.loop-run.invariant.time) in
    let got = subst (λ (b : Bool). StepRead n start done flips c.loop-run.words now b) c.if-not-more.true read in
    let steps = c.push_step.ensures.steps ∙ ap (λ (front : List (List ℕ)). front ++ c.as_slice.result.now ∷ []) c.in_ok-reserve.ensures.steps ∙ ap (λ (last : List ℕ). done ++ last ∷ []) c.as_slice.ensures.value in
    let past = past-past (Changes n start [] []) c.args.words.now (Changes n start done []) c.loop-run.words (Changes n start done flips) now c.loop-run.invariant.past got.1 in
    subst (Means (Changes n start [] []) c.args.words.now start) (sym steps)
    (past-means (Changes n start [] []) c.args.words.now (Changes n start done flips) now start (done ++ flips ∷ []) past
    (ends-there n start done flips now got.0 c.loop-run.invariant.all got.2))

pub overflow_add-time : goal.overflow_add-time
overflow_add-time c = omega (arith, c.in_ok-more.ensures.bound)

pub loop-run-preserved : goal.loop-run-preserved
loop-run-preserved c =
    let start = c.args.state.now in
    let n = length start in
    let done = c.loop-run.run.steps in
    let flips = c.read_step.new.flips.items in
    let now = c.read_step.new.words in
    let size = c.loop-run.invariant.size in
    let all = subst (λ (m : ℕ). All (AreFlips m) done) (sym size) c.loop-run.invariant.all in
    let read = subst (λ (m : ℕ). StepRead m start done flips c.loop-run.words now c.in_ok-more.more) size (c.in_ok-more.ensures.read start done all (sym c.loop-run.invariant.state) c.loop-run.invariant.time) in
    let got = subst (λ (b : Bool). StepRead n start done flips c.loop-run.words now b) c.if-not-more.false read in
    let steps = c.push_step.ensures.steps ∙ ap (λ (front : List (List ℕ)). front ++ c.as_slice.result.now ∷ []) c.in_ok-reserve.ensures.steps ∙ ap (λ (last : List ℕ). done ++ last ∷ []) c.as_slice.ensures.value in
    rw steps record {
      past = past-past (Changes n start [] []) c.args.words.now (Changes n start done []) c.loop-run.words (Changes n start (done ++ flips ∷ []) []) now c.loop-run.invariant.past got.1;
      all = All-push (AreFlips n) done flips c.loop-run.invariant.all got.0;
      state = c.in_ok-more.ensures.state ∙ ap (state_after flips) c.loop-run.invariant.state ∙ sym (end_of-append start done (flips ∷ []));
      size = ap length c.in_ok-more.ensures.state ∙ length-state_after flips c.loop-run.state ∙ size;
      times = at-next c.loop-run.time c.read_step.new.times flips c.in_ok-more.ensures.times;
      long = c.in_ok-more.ensures.long ∙ c.loop-run.invariant.long;
      flips = c.clear.ensures.items;
      time = omega (arith, c.loop-run.invariant.time, length_push done flips);
      early = omega (arith, c.in_ok-more.ensures.onward);
    }
