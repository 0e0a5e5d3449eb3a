use Rattle.std.proofs.Common.{◌≡◌, ◌≤◌, take}
use Rattle.hz_replay.specs.Replaying.{total_cycles}
use Rattle.hz_replay.proofs.verdict.count_cycles.Given as goal

abbrev pub invariant-loop-number : goal.invariant-loop-number
invariant-loop-number l = (l.cycles ≡ total_cycles (take l.number l.text.runs)) × (l.cycles ≤ l.number)
