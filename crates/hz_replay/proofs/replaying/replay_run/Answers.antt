use Rattle.hz_replay.proofs.RunSteps.{cycle-variables, run-outcome}
use Rattle.hz_replay.proofs.replaying.replay_run.Goals as goal

pub replay_cycle-requires-clause-variables : goal.replay_cycle-requires-clause-variables
replay_cycle-requires-clause-variables c =
    cycle-variables c.args.replay.now.circuit c.make_steps.new.replay.circuit c.args.lead.now.steps (λ run. run.now.steps) c.args.cycle c.in-Some.cycle c.in-Some.is c.make_steps.ensures.begin.circuit c.requires.variables

pub returns-in-Some-clause-outcome : goal.returns-in-Some-clause-outcome
returns-in-Some-clause-outcome c =
    run-outcome c.args.replay.now c.make_steps.new.replay c.args.lead.now.steps (λ run. run.now.steps) c.args.cycle c.in-Some.cycle c.steps.result c.replay_cycle.result c.in-Some.is c.steps.ensures c.in-Ok.ensures.outcome c.replay_cycle.ensures.outcome
