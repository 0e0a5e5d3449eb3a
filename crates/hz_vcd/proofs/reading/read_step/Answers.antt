-- One change after the other, up to the next time or the end.
use Rattle.std.proofs.Common.{◌≡◌, ◌≢◌, ◌∙◌, ◌+◌, ◌<◌, ℕ, Bool, false, not, List, [], ◌∷◌, ◌++◌, length, get_or, set, sym, ap, subst, arith, inl, inr, rules}
use Rattle.std.specs.List.{All}
use Rattle.std.specs.Vec.{vec_len}
use Rattle.std.proofs.lemmas.List.{length-set, length_push}
use Rattle.std.proofs.lemmas.List.Elements.{All-nil, All-push}
use Rattle.hz_net.specs.Network.{bit_at}
use Rattle.hz_lists.specs.Listed.{IsRepeatFree, is_listed}
use Rattle.hz_gmw.specs.Runs.{state_after, end_of}
use Rattle.hz_gmw.proofs.Flips.{length-state_after, state_after-none}
use Rattle.hz_vcd.specs.declared.fault.VcdFault.TheVariants as fault
use Rattle.hz_vcd.specs.Dump.{value_word, time_word}
use Rattle.hz_vcd.specs.Reading.{Past, Changes, AreAt}
use Rattle.hz_vcd.proofs.ReadingLaws.{past-none, past-past, past-fails}
use Rattle.hz_vcd.proofs.StepLaws.{turn-wrong, turn-end, turn-change, turn-time, push-changed, out-listed, listed-out, at-push, before-step, empty-is, empty-not}
use Rattle.hz_lists.proofs.ListedLemmas.{is_repeat_free-push}
use Rattle.hz_vcd.proofs.reading.read_step.Goals as goal

pub loop-word-init : goal.loop-word-init
loop-word-init c =
    let n = length c.args.state.now in
    let none = c.requires.flips in
    record {
      past = λ start done at. subst (λ (flips : List ℕ). Past (Changes n start done []) c.args.words.now (Changes n start done flips) c.args.words.now) (sym none)
          (past-none (Changes n start done []) c.args.words.now);
      state = sym (ap (λ (flips : List ℕ). state_after flips c.args.state.now) none ∙ state_after-none 0 c.args.state.now);
      times = subst (AreAt c.args.time c.args.times.now) (sym none) c.requires.fresh;
      long = c.requires.long;
      once = subst IsRepeatFree (sym none) tt;
      inside = subst (All (λ v. v < n)) (sym none) (All-nil (λ v. v < n));
      shorter = omega (arith, ap length none);
      onward = omega (arith, ap length none);
    }

pub returns-then-is_empty-clause-read : goal.returns-then-is_empty-clause-read
returns-then-is_empty-clause-read c = λ start done all at when.
    let n = length c.args.state.now in
    let flips = c.loop-word.flips.items in
    let size : vec_len c.loop-word.flips ≡ length flips = search rules in
    past-fails (Changes n start done []) c.args.words.now (Changes n start done flips) c.loop-word.words (fault.Form c.number-token.result) (c.loop-word.invariant.past start done at)
    (turn-end n start done all c.requires.some flips c.loop-word.words c.number-token.result (empty-is flips (vec_len c.loop-word.flips) size c.if-is_empty.ensures) c.in_default.ensures.0 c.number-token.ensures.number)

pub returns-then-is_empty-2-clause-read : goal.returns-then-is_empty-2-clause-read
returns-then-is_empty-2-clause-read c = λ start done all at when.
    let s = c.args.state.now in
    let n = length s in
    let flips = c.loop-word.flips.items in
    let size : vec_len c.loop-word.flips ≡ length flips = search rules in
    let long = ap length c.loop-word.invariant.state ∙ length-state_after flips s in
    let differ : (var : ℕ) → var < n → is_listed flips var ≡ false → value_word var (not (bit_at (end_of start done) var)) ≢ c.in-Some.word.now =
    λ var below out is.
    let same = ap (λ (t : List Bool). bit_at t var) c.loop-word.invariant.state ∙ before-step flips var s below out ∙ ap (λ (t : List Bool). bit_at t var) (sym at) in
    c.in_default-change_in.ensures var (omega (arith, below, long))
    (listed-out c.args.time c.loop-word.times flips var c.loop-word.invariant.times (omega (arith, below, c.loop-word.invariant.long)) out)
    (ap (λ (b : Bool). value_word var (not b)) same ∙ is) in
    past-fails (Changes n start done []) c.args.words.now (Changes n start done flips) c.loop-word.words (fault.Form c.number-token.result) (c.loop-word.invariant.past start done at)
    (turn-wrong n start done all c.requires.some flips c.loop-word.words c.number-token.result c.in-Some.word.now _ c.loop-word.invariant.once c.loop-word.invariant.inside
    c.in-Some.ensures.0 c.number-token.ensures.number differ (inl (empty-is flips (vec_len c.loop-word.flips) size c.if-is_empty-2.ensures)))

pub returns-then-not-is_time-clause-read : goal.returns-then-not-is_time-clause-read
returns-then-not-is_time-clause-read c = λ start done all at when.
    let s = c.args.state.now in
    let n = length s in
    let flips = c.loop-word.flips.items in
    let long = ap length c.loop-word.invariant.state ∙ length-state_after flips s in
    let differ : (var : ℕ) → var < n → is_listed flips var ≡ false → value_word var (not (bit_at (end_of start done) var)) ≢ c.in-Some.word.now =
    λ var below out is.
    let same = ap (λ (t : List Bool). bit_at t var) c.loop-word.invariant.state ∙ before-step flips var s below out ∙ ap (λ (t : List Bool). bit_at t var) (sym at) in
    c.in_default-change_in.ensures var (omega (arith, below, long))
    (listed-out c.args.time c.loop-word.times flips var c.loop-word.invariant.times (omega (arith, below, c.loop-word.invariant.long)) out)
    (ap (λ (b : Bool). value_word var (not b)) same ∙ is) in
    let next : length done + 2 ≡ c.args.time + 1 = omega (arith, when) in
    past-fails (Changes n start done []) c.args.words.now (Changes n start done flips) c.loop-word.words (fault.Form c.number-token.result) (c.loop-word.invariant.past start done at)
    (turn-wrong n start done all c.requires.some flips c.loop-word.words c.number-token.result c.in-Some.word.now _ c.loop-word.invariant.once c.loop-word.invariant.inside
    c.in-Some.ensures.0 c.number-token.ensures.number differ (inr (λ is. c.if-not-is_time.ensures (is ∙ ap time_word next))))

pub returns-in_default-change_in-clause-read : goal.returns-in_default-change_in-clause-read
returns-in_default-change_in-clause-read c = λ start done all at when.
    let n = length c.args.state.now in
    let flips = c.loop-word.flips.items in
    let size : vec_len c.loop-word.flips ≡ length flips = search rules in
    let next : c.args.time + 1 ≡ length done + 2 = omega (arith, when) in (
      record { some = empty-not flips (vec_len c.loop-word.flips) size c.if-is_empty-2.ensures; once = c.loop-word.invariant.once; inside = c.loop-word.invariant.inside },
      past-past (Changes n start done []) c.args.words.now (Changes n start done flips) c.loop-word.words (Changes n start (done ++ flips ∷ []) []) c.next.new.self
          (c.loop-word.invariant.past start done at)
          (turn-time n start done flips c.loop-word.words c.next.new.self c.in-Some.word.now c.in-Some.ensures.0 c.in-Some.ensures.1 (c.if-not-is_time.ensures ∙ ap time_word next)),
    )

pub loop-word-preserved : goal.loop-word-preserved
loop-word-preserved c =
    let s = c.args.state.now in
    let n = length s in
    let flips = c.loop-word.flips.items in
    let var = c.in-Some-change_in.var in
    let found = c.in-Some-change_in.ensures in
    let long = ap length c.loop-word.invariant.state ∙ length-state_after flips s in
    let below : var < n = omega (arith, found.0, long) in
    let out = out-listed c.args.time c.loop-word.times flips var c.loop-word.invariant.times found.1 in
    rw c.in-Ok.ensures.items record {
      past = λ start done at.
          let same = ap (λ (t : List Bool). bit_at t var) c.loop-word.invariant.state ∙ before-step flips var s below out ∙ ap (λ (t : List Bool). bit_at t var) (sym at) in
          past-past (Changes n start done []) c.args.words.now (Changes n start done flips) c.loop-word.words (Changes n start done (flips ++ var ∷ [])) c.next.new.self
          (c.loop-word.invariant.past start done at)
          (turn-change n start done flips c.loop-word.words c.next.new.self c.in-Some.word.now var c.requires.few c.in-Some.ensures.0 c.in-Some.ensures.1 below
          (ap (λ (b : Bool). value_word var (not b)) (sym same) ∙ found.2));
      state = ap (λ (t : List Bool). set t var (not (get_or t var false))) c.loop-word.invariant.state ∙ sym (push-changed flips var s below out);
      times = at-push c.args.time c.loop-word.times flips var c.loop-word.invariant.times (omega (arith, below, c.loop-word.invariant.long));
      long = omega (arith, length-set c.loop-word.times var c.args.time, c.loop-word.invariant.long);
      once = is_repeat_free-push flips var c.loop-word.invariant.once out;
      inside = All-push (λ v. v < n) flips var c.loop-word.invariant.inside below;
      shorter = omega (arith, ap length c.in-Some.ensures.0, length_push flips var, c.loop-word.invariant.shorter);
      onward = omega (arith, c.in-Some.ensures.1, length_push flips var, c.loop-word.invariant.onward);
    }
