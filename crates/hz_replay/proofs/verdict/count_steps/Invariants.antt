use Rattle.std.proofs.Common.{◌≡◌, take}
use Rattle.hz_replay.specs.Replaying.{total_steps}
use Rattle.hz_replay.proofs.verdict.count_steps.Given as goal

abbrev pub invariant-loop-number : goal.invariant-loop-number
invariant-loop-number l = l.steps ≡ total_steps (take l.number l.text.runs)
