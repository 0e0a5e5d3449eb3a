use Rattle.std.proofs.Common.{refl}
use Rattle.hz_replay.proofs.ReplayerStepLemmas.{made-more, refused-next}
use Rattle.hz_replay.proofs.replaying.make_steps.Goals as goal

pub returns-in-Err-clause-outcome : goal.returns-in-Err-clause-outcome
returns-in-Err-clause-outcome c =
    refused-next c.args.replay.now c.loop-index.replay c.args.run.now.steps c.loop-index.index c.step.result.now c.in-Err.fault (rw c.steps-index-end.ensures at c.loop-index-test.true) c.step.ensures c.loop-index.invariant c.in-Err.ensures.fault

pub loop-index-preserved : goal.loop-index-preserved
loop-index-preserved c =
    made-more c.args.replay.now c.loop-index.replay c.step-in-loop-index.new.self c.args.run.now.steps c.loop-index.index c.step.result.now (rw c.steps-index-end.ensures at c.loop-index-test.true) c.step.ensures c.loop-index.invariant
    (c.in-Ok.ensures.exact.0 refl) c.in-Ok.ensures.after c.in-Ok.ensures.stands
