use Rattle.std.proofs.Common.{◌≡◌, ◌+◌, ◌++◌, take}
use Rattle.hz_gmw.specs.RunRecord.{flip_count}
use Rattle.hz_split.proofs.found.add_front.Given as goal

-- the steps so far are added
abbrev pub invariant-loop-number : goal.invariant-loop-number
invariant-loop-number l =
    (l.run.steps ≡ l.fn.run.steps ++ take l.number l.cycle.steps)
    × (l.run.spare_flips + flip_count (take l.number l.cycle.steps) ≡ l.fn.run.spare_flips)
    × (l.run.spare_steps + l.number ≡ l.fn.run.spare_steps)
