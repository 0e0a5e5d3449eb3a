-- Two attempts from a state, and then the others.
use Rattle.std.proofs.Common.{◌∙◌, ◌+◌, ◌-◌, ◌<◌, ◌++◌, ℕ, Bool, List, [], length, take, get_or, min, refl, sym, ap, arith}
use Rattle.hz_split.proofs.Words.{range_with_len, network_of, state_after, length-state_after, most_fronts, FoundOf, Least, Greatest}
use Rattle.hz_split.proofs.FoundLemmas.{attempts-more, attempts-two, attempt-variables}
use Rattle.hz_split.proofs.split.attempt_all.Goals as goal

pub returns-then-count-eq2-clause-found : goal.returns-then-count-eq2-clause-found
returns-then-count-eq2-clause-found c =
    let so_far = c.loop-front.invariant in
    let net = network_of c.args.trial.now.circuit in
    let input = c.args.finding.now.input in
    let settle = c.args.finding.now.settle.steps in
    let cycle = c.args.finding.now.cycle.steps in
    let front = c.loop-front.front in
    let below : front < min (length cycle) most_fronts = omega (arith, c.loop-front-test.true, c.min-fronts.ensures, c.steps.ensures) in
    let one = rw so_far.0 at c.attempt.ensures.found in
    let two = rw (c.attempt.ensures.circuit ∙ so_far.0) at c.attempt-in-loop-front.ensures.found in
    let next = state_after (get_or cycle front []) c.loop-front.here in
    sym (attempts-two net input settle cycle (range_with_len (front + 1) (min (length cycle) most_fronts - (front + 1))) next c.attempt-in-loop-front.new.found (sym c.count.ensures.count ∙ c.if-count-eq2.true))
    ∙ attempts-more net input settle cycle (min (length cycle) most_fronts) front c.loop-front.here next c.loop-front.found c.attempt.new.found c.attempt-in-loop-front.new.found _ below one two refl so_far.3

pub loop-front-preserved : goal.loop-front-preserved
loop-front-preserved c =
    let so_far = c.loop-front.invariant in
    let net = network_of c.args.trial.now.circuit in
    let input = c.args.finding.now.input in
    let settle = c.args.finding.now.settle.steps in
    let cycle = c.args.finding.now.cycle.steps in
    let front = c.loop-front.front in
    let below : front < min (length cycle) most_fronts = omega (arith, c.loop-front-test.true, c.min-fronts.ensures, c.steps.ensures) in
    let one = rw so_far.0 at c.attempt.ensures.found in
    let two = rw (c.attempt.ensures.circuit ∙ so_far.0) at c.attempt-in-loop-front.ensures.found in
    let next = c.make_step.ensures ∙ ap (λ (flips : List ℕ). state_after flips c.loop-front.here) c.step.ensures in (
      c.attempt-in-loop-front.ensures.circuit ∙ (c.attempt.ensures.circuit ∙ so_far.0),
      ap (length {A = Bool}) next ∙ (length-state_after (get_or cycle front []) c.loop-front.here ∙ so_far.1),
      ap (λ (f : FoundOf). f.variables) two
          ∙ (attempt-variables net input Greatest (settle ++ take front cycle) c.loop-front.here c.attempt.new.found
          ∙ (ap (λ (f : FoundOf). f.variables) one ∙ (attempt-variables net input Least (settle ++ take front cycle) c.loop-front.here c.loop-front.found ∙ so_far.2))),
      attempts-more net input settle cycle (min (length cycle) most_fronts) front c.loop-front.here c.make_step.new.state c.loop-front.found c.attempt.new.found c.attempt-in-loop-front.new.found _ below one two next so_far.3,
    )
