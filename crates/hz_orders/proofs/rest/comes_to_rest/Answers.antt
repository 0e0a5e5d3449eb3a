-- The replayer began at the start.
use Rattle.hz_orders.proofs.Shown.{began}
use Rattle.hz_orders.proofs.rest.comes_to_rest.Goals as goal

pub returns : goal.returns
returns c = λ still.
    began c.in_ok-replay.replay c.begin.new.self c.args.change.now.net.now c.args.change.now.input.now c.args.change.now.start.now _ _ c.args.run.now.steps
    c.in_ok-replay.ensures.at c.begin.ensures.at (c.rests.ensures still)
