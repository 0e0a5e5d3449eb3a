-- The follower makes each step.
use Rattle.std.proofs.Common.{◌≡◌, ◌∙◌, ◌+◌, ◌<◌, ℕ, All, length, refl, ap, subst, sym}
use Rattle.std.specs.List.{slice_range}
use Rattle.hz_core.specs.Netlist.{Netlist}
use Rattle.hz_net.specs.Network.{network_of}
use Rattle.hz_gmw.specs.Runs.{IsStep}
use Rattle.hz_gmw.specs.Follower.{FollowerOf}
use Rattle.hz_desk.proofs.RaceLoop.{race_bit, cut, along-step, along-more, step-inside}
use Rattle.hz_desk.proofs.races.races_before.Goals as goal

pub step-requires-in-loop-number-clause-inside : goal.step-requires-in-loop-number-clause-inside
step-requires-in-loop-number-clause-inside c =
    let net = network_of c.args.follower.now.circuit in
    let input = c.args.follower.now.input in
    let steps = c.args.run.now.steps in
    let number = c.loop-number.number in
    let at = cut steps number (number + 1) c.args.to c.step.result.now c.loop-number-test.true c.requires.to refl c.step.ensures in
    let step = along-step net input c.args.follower.now.state (slice_range steps c.args.from c.args.to) (slice_range steps number c.args.to) (slice_range steps (number + 1) c.args.to) c.loop-number.races c.loop-number.follower.state c.step.result.now at c.loop-number.invariant.0 in
    subst (λ (n : Netlist). All (λ (var : ℕ). var < length (network_of n)) c.step.result.now) (sym c.loop-number.invariant.1)
    (step-inside net input c.loop-number.follower.state c.step.result.now step)

pub step-requires-in-loop-number-clause-once : goal.step-requires-in-loop-number-clause-once
step-requires-in-loop-number-clause-once c =
    let net = network_of c.args.follower.now.circuit in
    let input = c.args.follower.now.input in
    let steps = c.args.run.now.steps in
    let number = c.loop-number.number in
    let at = cut steps number (number + 1) c.args.to c.step.result.now c.loop-number-test.true c.requires.to refl c.step.ensures in
    let step : IsStep net input c.loop-number.follower.state c.step.result.now =
    along-step net input c.args.follower.now.state (slice_range steps c.args.from c.args.to) (slice_range steps number c.args.to) (slice_range steps (number + 1) c.args.to) c.loop-number.races c.loop-number.follower.state c.step.result.now at c.loop-number.invariant.0 in
    step.once

pub loop-number-preserved : goal.loop-number-preserved
loop-number-preserved c =
    let net = network_of c.args.follower.now.circuit in
    let input = c.args.follower.now.input in
    let steps = c.args.run.now.steps in
    let number = c.loop-number.number in
    let on = c.loop-number.invariant.1 in
    let under = c.loop-number.invariant.2 in
    let at = cut steps number (number + 1) c.args.to c.step.result.now c.loop-number-test.true c.requires.to refl c.step.ensures in
    let counts : c.race_here-races.result ≡ race_bit net input c.loop-number.follower.state =
    let now = c.race_here-races.ensures in
    rw (on, under) at now in (
      along-more net input c.args.follower.now.state (slice_range steps c.args.from c.args.to) (slice_range steps number c.args.to) (slice_range steps (number + 1) c.args.to) c.loop-number.races c.race_here-races.result c.loop-number.follower.state c.step-in-loop-number.new.self.state c.step.result.now at counts
          (ap (λ (f : FollowerOf). f.state) c.step-in-loop-number.ensures) c.loop-number.invariant.0,
      ap (λ (f : FollowerOf). f.circuit) c.step-in-loop-number.ensures ∙ on,
      ap (λ (f : FollowerOf). f.input) c.step-in-loop-number.ensures ∙ under,
    )
