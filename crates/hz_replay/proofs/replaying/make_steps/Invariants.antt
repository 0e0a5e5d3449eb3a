use Rattle.std.proofs.Common.{take}
use Rattle.hz_replay.specs.ReplayerSteps.{MakesSteps}
use Rattle.hz_replay.proofs.replaying.make_steps.Given as goal

abbrev pub invariant-loop-index : goal.invariant-loop-index
invariant-loop-index l = MakesSteps l.fn.replay l.replay (take l.index l.run.steps)
