-- The steps are a run, which comes to rest.
use Rattle.std.proofs.Common.{refl}
use Rattle.hz_orders.proofs.Shown.{rested}
use Rattle.hz_orders.proofs.rest.rests.Goals as goal

pub returns : goal.returns
returns c = λ still.
    rested c.args.replay.now c.replays.new.replay c.args.run.now.steps (c.if-not-replays.ensures.run refl) (c.is_at_rest.ensures still)
    c.replays.ensures.circuit c.replays.ensures.input c.replays.ensures.marked
