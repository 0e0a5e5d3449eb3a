-- Each step in turn.
use Rattle.std.proofs.Common.{◌<◌, ◌≤◌, length, arith}
use Rattle.hz_split.proofs.Steps.{made-more, made-all}
use Rattle.hz_split.proofs.flips.make_run.Goals as goal

pub loop-number-preserved : goal.loop-number-preserved
loop-number-preserved c =
    let below : c.loop-number.number < length c.args.run.now.steps = omega (arith, c.loop-number-test.true, c.steps-number-end.ensures) in
    made-more c.args.run.now.steps c.args.state.now c.loop-number.state c.make_step.new.state c.loop-number.number c.step.result.now below c.step.ensures c.make_step.ensures c.loop-number.invariant

pub returns : goal.returns
returns c =
    let end : length c.args.run.now.steps ≤ c.loop-number.number = omega (arith, c.loop-number-test.false, c.steps-number-end.ensures) in
    made-all c.args.run.now.steps c.args.state.now c.loop-number.state c.loop-number.number end c.loop-number.invariant
