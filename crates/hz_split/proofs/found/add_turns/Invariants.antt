use Rattle.std.proofs.Common.{◌≡◌, ◌+◌, ◌++◌, take}
use Rattle.hz_split.specs.Attempts.{flips_alone}
use Rattle.hz_split.proofs.found.add_turns.Given as goal

-- the turns so far are added
abbrev pub invariant-loop-var : goal.invariant-loop-var
invariant-loop-var l =
    (l.run.steps ≡ l.fn.run.steps ++ flips_alone (take l.var-index l.turns))
    × (l.run.spare_flips + l.var-index ≡ l.fn.run.spare_flips)
    × (l.run.spare_steps + l.var-index ≡ l.fn.run.spare_steps)
