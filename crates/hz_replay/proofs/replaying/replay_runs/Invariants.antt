use Rattle.std.proofs.Common.{take, All}
use Rattle.hz_replay.proofs.Words.{network_of, initial_replayer, IsAcceptedRun}
use Rattle.hz_replay.specs.ReplayerSteps.{KeepsInitialState}
use Rattle.hz_replay.proofs.replaying.replay_runs.Given as goal

-- the replayer may begin again, and the runs so far are accepted
abbrev pub invariant-loop-number : goal.invariant-loop-number
invariant-loop-number l =
    KeepsInitialState (initial_replayer l.fn.replay.circuit l.text.input l.start) l.replay
    × All (IsAcceptedRun (network_of l.fn.replay.circuit) l.text.input l.start) (take l.number l.text.runs)
