-- The steps so far were made.
use Rattle.std.proofs.Common.{◌≡◌, take}
use Rattle.hz_gmw.specs.Replayer.{StandsFor}
use Rattle.hz_orders.proofs.rest.replays.Given as goal

abbrev pub invariant-loop-number : goal.invariant-loop-number
invariant-loop-number l =
    StandsFor l.replay (take l.number l.run.steps)
    × (l.replay.circuit ≡ l.fn.replay.circuit)
    × (l.replay.input ≡ l.fn.replay.input)
    × (l.replay.marked ≡ l.fn.replay.marked)
