use Rattle.std.proofs.Common.{◌<◌, All, take}
use Rattle.hz_run_tests.proofs.replays.below.Given as goal

-- the numbers so far are below the bound
abbrev pub invariant-loop-var : goal.invariant-loop-var
invariant-loop-var l = All (λ var. var < l.bound) (take l.var-index l.list)
