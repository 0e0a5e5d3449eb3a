use Rattle.std.proofs.Common.{rules, ◌≡◌, ◌≢◌, ◌∙◌, ◌+◌, ℕ, List, [], length, refl, subst, sym, Vec, Global, ap, arith}
use Rattle.std.specs.Prelude.{sum_by, vec_capacity}
use Rattle.std.proofs.lemmas.List.{nil_from_length}
use Rattle.hz_core.specs.declared.tri.Tri.{Tri}
use Rattle.hz_net.specs.Network.{network_of}
use Rattle.hz_pass.specs.Frontier.{Falls, open_weight, reader_count}
use Rattle.hz_pass.proofs.PassLoop.{pass-begin, pass-long, pass-falls, pass-bound, pass-changes, pass-on}
use Rattle.hz_pass.proofs.Values.{falls-after}
use Rattle.hz_pass.proofs.StepCounts.{StepsSoFar, steps-begin, steps-more}
use Rattle.hz_pass.proofs.ChangedValues.{length-noted, state-after, noted-after, unchanged, differs, some-long, changed-all, next-long, quiet-list, pass-ends}
use Rattle.hz_pass.proofs.rounds.Pass.make_rounds.Goals as goal

pub loop-front-init : goal.loop-front-init
loop-front-init g c =
    let net = network_of c.args.self.now.net.now in
    let noted_long : length c.forget.new.noted ≡ length net = omega (arith, c.forget.ensures.long, c.requires.noted) in (
      omega arith,
      omega (arith, c.keeps_shape.ensures.bound),
      pass-begin c.requires.pass.state c.requires.pass.falls c.forget.new.noted noted_long c.forget.ensures.zero,
      c.evaluate_first.ensures.round,
      steps-begin c.args.self.now.net.now c.keeps_shape.ensures.circuit c.evaluate_first.ensures.round c.requires.pass.state c.evaluate_first.ensures.steps c.evaluate_first.ensures.counted,
      c.evaluate_first.ensures.listed ∙ (c.front.invariant.room ∙ (c.front.view_is ∙ c.requires.front)),
      c.evaluate_first.ensures.room ∙ (c.front.view_is ∙ c.requires.front),
    )

pub take_over-requires-clause-inside : goal.take_over-requires-clause-inside
take_over-requires-clause-inside g c =
    let net = network_of c.args.self.now.net.now in
    let long : length c.loop-front.state ≡ length net = pass-long c.requires.pass.state c.requires.pass.falls c.loop-front.invariant.2 in
    changed-all long c.loop-front.invariant.3 (sym (next-long long c.loop-front.invariant.3)) c.as_slice.ensures.value

pub evaluate_readers-requires-clause-quiet : goal.evaluate_readers-requires-clause-quiet
evaluate_readers-requires-clause-quiet g c =
    let net = network_of c.args.self.now.net.now in
    let long : length c.loop-front.state ≡ length net = pass-long c.requires.pass.state c.requires.pass.falls c.loop-front.invariant.2 in
    quiet-list long c.loop-front.invariant.3
    (c.as_slice-in-loop-front.ensures.value ∙ ap (λ (list : Vec ℕ Global). list.items) c.swap.ensures.x_after)
    (state-after long c.loop-front.invariant.3 c.as_slice.ensures.value c.take_over.ensures.state)

pub evaluate_readers-requires-clause-due : goal.evaluate_readers-requires-clause-due
evaluate_readers-requires-clause-due g c =
    let net = network_of c.args.self.now.net.now in
    let long : length c.loop-front.state ≡ length net = pass-long c.requires.pass.state c.requires.pass.falls c.loop-front.invariant.2 in
    changed-all long c.loop-front.invariant.3 refl
    (c.as_slice-in-loop-front.ensures.value ∙ ap (λ (list : Vec ℕ Global). list.items) c.swap.ensures.x_after)

pub evaluate_readers-requires-clause-next : goal.evaluate_readers-requires-clause-next
evaluate_readers-requires-clause-next g c =
    let net = network_of c.args.self.now.net.now in
    let long : length c.loop-front.state ≡ length net = pass-long c.requires.pass.state c.requires.pass.falls c.loop-front.invariant.2 in
    sym (state-after long c.loop-front.invariant.3 c.as_slice.ensures.value c.take_over.ensures.state)

pub evaluate_readers-requires-clause-round : goal.evaluate_readers-requires-clause-round
evaluate_readers-requires-clause-round g c =
    let pass = c.args.self.now in
    let net = network_of pass.net.now in
    let long : length c.loop-front.state ≡ length net = pass-long c.requires.pass.state c.requires.pass.falls c.loop-front.invariant.2 in
    let is = state-after long c.loop-front.invariant.3 c.as_slice.ensures.value c.take_over.ensures.state in record {
      input = c.requires.pass.input;
      state = ap length is ∙ next-long long c.loop-front.invariant.3;
      falls = subst (Falls pass.rule net pass.input.now) (sym is)
          (falls-after pass.rule net pass.input.now c.loop-front.state c.loop-front.work c.loop-front.invariant.3.made (pass-falls c.requires.pass.state c.requires.pass.falls c.loop-front.invariant.2));
    }

pub overflow_add-rounds : goal.overflow_add-rounds
overflow_add-rounds g c =
    omega (arith, c.loop-front.invariant.0, c.loop-front.invariant.1, pass-bound c.requires.pass.state c.requires.pass.falls c.loop-front.invariant.2)

pub loop-front-smaller : goal.loop-front-smaller
loop-front-smaller g c =
    omega (arith, c.loop-front.invariant.0, pass-bound c.requires.pass.state c.requires.pass.falls c.loop-front.invariant.2)

pub loop-front-preserved : goal.loop-front-preserved
loop-front-preserved g c =
    let net = network_of c.args.self.now.net.now in
    let so_far = c.loop-front.invariant.2 in
    let round = c.loop-front.invariant.3 in
    let long : length c.loop-front.state ≡ length net = pass-long c.requires.pass.state c.requires.pass.falls so_far in
    let noted_long : length c.loop-front.noted ≡ length net = so_far.firsts.long ∙ long in
    let state_is = state-after long round c.as_slice.ensures.value c.take_over.ensures.state in
    let some : c.loop-front.front-inside.changed.items ≢ [] = search rules in
    let due_is : c.as_slice-in-loop-front.result.now ≡ c.loop-front.front-inside.changed.items = c.as_slice-in-loop-front.ensures.value ∙ ap (λ (list : Vec ℕ Global). list.items) c.swap.ensures.x_after in (
      omega arith,
      c.loop-front.invariant.1,
      pass-on c.requires.pass.state c.requires.pass.falls c.loop-front.invariant.0 so_far round
          (differs long round some) (some-long c.loop-front.front-inside.changed.items some) state_is
          (ap (length {A = ℕ}) c.take_over.ensures.noted ∙ length-noted c.loop-front.rounds c.loop-front.noted c.as_slice.result.now)
          (noted-after long round c.loop-front.rounds c.loop-front.noted noted_long c.as_slice.ensures.value c.take_over.ensures.noted),
      c.evaluate_readers.ensures.round,
      steps-more c.args.self.now.net.now c.keeps_shape.ensures.circuit c.evaluate_readers.ensures.round
          (subst (λ (values : List Tri). StepsSoFar c.args.self.now.rule c.args.self.now.net.now c.args.state.now c.args.self.now.first c.args.steps.now c.loop-front.steps values c.loop-front.front-inside.changed.items) (sym state_is) c.loop-front.invariant.4)
          (c.evaluate_readers.ensures.steps ∙ ap (λ (list : List ℕ). c.loop-front.steps + sum_by (reader_count c.args.self.now.net.now) list) due_is)
          c.evaluate_readers.ensures.counted,
      ap vec_capacity c.swap.ensures.x_after ∙ c.loop-front.invariant.6,
      c.evaluate_readers.ensures.room ∙ (c.clear.ensures.capacity ∙ (ap vec_capacity c.swap.ensures.y_after ∙ c.loop-front.invariant.5)),
    )

pub returns-clause-rounds : goal.returns-clause-rounds
returns-clause-rounds g c =
    (pass-ends c.requires.pass.state c.requires.pass.falls c.loop-front.invariant.0 c.loop-front.invariant.2 c.loop-front.invariant.3 (search rules)).0

pub returns-clause-state : goal.returns-clause-state
returns-clause-state g c =
    (pass-ends c.requires.pass.state c.requires.pass.falls c.loop-front.invariant.0 c.loop-front.invariant.2 c.loop-front.invariant.3 (search rules)).1

pub returns-clause-bound : goal.returns-clause-bound
returns-clause-bound g c =
    (pass-ends c.requires.pass.state c.requires.pass.falls c.loop-front.invariant.0 c.loop-front.invariant.2 c.loop-front.invariant.3 (search rules)).2

pub returns-clause-least_steps : goal.returns-clause-least_steps
returns-clause-least_steps g c =
    let round = c.loop-front.invariant.3 in
    let none : c.loop-front.front-inside.changed.items ≡ [] = nil_from_length c.loop-front.front-inside.changed.items (search rules) in
    let same = unchanged (pass-long c.requires.pass.state c.requires.pass.falls c.loop-front.invariant.2) round none in
    omega (
      arith,
      c.loop-front.invariant.4.least,
      pass-changes c.requires.pass.state c.requires.pass.falls c.loop-front.invariant.2,
      ap (open_weight c.args.self.now.rule (λ i. 1)) same,
    )
