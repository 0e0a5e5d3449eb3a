-- One step more is counted, and keeps the orders.
use Rattle.std.proofs.Common.{◌≡◌, ℕ, All, length, refl, subst, arith}
use Rattle.hz_orders.specs.Counted.{IsNoted}
use Rattle.hz_orders.proofs.Steps.{step-kept}
use Rattle.hz_orders.proofs.check.keeps_orders.Goals as goal

pub loop-number-preserved : goal.loop-number-preserved
loop-number-preserved c =
    let few = c.loop-number-test.true in
    let end = c.steps-number-end.ensures in
    let long = c.loop-number.auto.counts in
    let filled = c.fill.auto.self in
    let same : length c.fill.new.self ≡ length c.loop-number.counts = omega (arith, long, filled) in
    step-kept c.loop-number.number c.args.run.now.steps c.args.marks.now c.step-flips.result.now c.loop-number.counts c.count_step.new.counts c.args.orders.now
    (omega (arith, few, end)) c.step-flips.ensures c.count_step.auto.counts (subst (λ (n : ℕ). All (IsNoted n c.args.marks.now) c.args.orders.now) same (c.if-not-are_noted.ensures refl))
    (c.if-not-count_step.ensures refl) (c.if-not-step_keeps.ensures refl) c.loop-number.invariant.0 c.loop-number.invariant.1
