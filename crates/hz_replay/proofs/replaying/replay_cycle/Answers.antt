use Rattle.std.proofs.Common.{refl, []}
use Rattle.hz_replay.proofs.ReplayerStepLemmas.{cycle-accepted, cycle-refused}
use Rattle.hz_replay.proofs.replaying.replay_cycle.Goals as goal

pub returns-in-Ok-close-clause-outcome : goal.returns-in-Ok-close-clause-outcome
returns-in-Ok-close-clause-outcome c =
    let made = c.in-Ok.ensures.outcome in
    let stands = made.stands [] c.mark.ensures.stands in
    cycle-accepted c.args.replay.now c.mark.new.self c.make_steps.new.replay c.args.cycle.now.steps c.mark.ensures.at made
    ((c.in-Ok-close.ensures.exact c.args.cycle.now.steps stands).0 refl)

pub returns-in-Err-close-clause-outcome : goal.returns-in-Err-close-clause-outcome
returns-in-Err-close-clause-outcome c =
    let made = c.in-Ok.ensures.outcome in
    let stands = made.stands [] c.mark.ensures.stands in
    cycle-refused c.args.replay.now c.mark.new.self c.make_steps.new.replay c.args.cycle.now.steps c.in-Err-close.fault c.mark.ensures.at made
    (c.in-Err-close.ensures.fault c.args.cycle.now.steps stands)
