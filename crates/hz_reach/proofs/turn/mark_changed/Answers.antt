use Rattle.std.proofs.Common.{◌≡◌, ◌∙◌, ◌-◌, ◌+◌, ◌<◌, ℕ, Bool, List, false, length, refl, ap, arith, slice_range}
use Rattle.hz_reach.proofs.Words.{differs, bit_at, length-part, at-part, filtered_range}
use Rattle.hz_reach.proofs.FilteredRangeLemmas.{filtered_range-below, filtered_range-next}
use Rattle.hz_reach.proofs.turn.mark_changed.Goals as goal

-- the test of a wire, at a pin
test : (state : List Bool) (first : ℕ) (pattern : List Bool) → ℕ → Bool
test state first pattern i = differs (bit_at (slice_range state first (first + length pattern)) (i - first)) (bit_at pattern (i - first))

test-at : (state : List Bool) (first : ℕ) (pattern : List Bool) (pin : ℕ) → pin < length pattern → test state first pattern (first + pin) ≡ differs (bit_at state (first + pin)) (bit_at pattern pin)
unfolding test
test-at state first pattern pin few =
    let place : first + pin - first ≡ pin = omega arith in
    ap (λ (n : ℕ). differs (bit_at (slice_range state first (first + length pattern)) n) (bit_at pattern n)) place
    ∙ ap (λ (b : Bool). differs b (bit_at pattern pin)) (at-part state first (length pattern) pin false few)

pub mark_if-requires-clause-ascending : goal.mark_if-requires-clause-ascending
unfolding test
mark_if-requires-clause-ascending c =
    rw c.loop-pin.invariant.0 (λ i. filtered_range-below (test c.args.scratch.now.state c.args.first c.args.pattern.now) c.args.first c.loop-pin.pin (c.args.first + c.loop-pin.pin) i refl)

pub loop-pin-preserved : goal.loop-pin-preserved
unfolding test
loop-pin-preserved c =
    let first = c.args.first in
    let pin = c.loop-pin.pin in
    let is = test-at c.args.scratch.now.state first c.args.pattern.now pin c.loop-pin-test.true in (
      rw (c.mark_if.ensures.marked, c.loop-pin.invariant.0, c.state.ensures, c.loop-pin.invariant.1, ← is)
          (filtered_range-next (test c.args.scratch.now.state first c.args.pattern.now) first pin (first + pin) refl),
      c.mark_if.ensures.state ∙ c.loop-pin.invariant.1,
      c.mark_if.ensures.sorted ∙ c.loop-pin.invariant.2,
    )

pub returns-clause-marked : goal.returns-clause-marked
returns-clause-marked c =
    let few = c.requires.inside in
    let long = length-part c.args.scratch.now.state c.args.first (length c.args.pattern.now) (λ k less. omega (arith, few, less)) in
    c.loop-pin.invariant.0
    ∙ ap (filtered_range (λ i. differs (bit_at (slice_range c.args.scratch.now.state c.args.first (c.args.first + length c.args.pattern.now)) (i - c.args.first)) (bit_at c.args.pattern.now (i - c.args.first))) c.args.first) (omega (arith, long, c.loop-pin.auto.pin-end, c.loop-pin-test.false))
