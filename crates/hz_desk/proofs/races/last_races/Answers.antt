-- At most one step is left.
use Rattle.std.proofs.Common.{◌<◌, length, arith}
use Rattle.hz_net.specs.Network.{network_of}
use Rattle.hz_desk.proofs.RaceLoop.{step-inside}
use Rattle.hz_desk.proofs.CommonSteps.{last-step}
use Rattle.hz_desk.proofs.races.last_races.Goals as goal

pub race_after-requires-clause-inside : goal.race_after-requires-clause-inside
race_after-requires-clause-inside c =
    let now = c.args.follower.now in
    let net = network_of now.circuit in
    let below : c.args.from < length c.args.run.now.steps = omega (arith, c.if-steps-from.false, c.steps.ensures) in
    let step = last-step net now.input now.state c.args.run.now.steps c.args.from c.step.result.now below c.requires.few c.step.ensures c.requires.run in
    step-inside net now.input now.state c.step.result.now step
