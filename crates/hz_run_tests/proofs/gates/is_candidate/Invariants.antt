-- The pins so far that are not free are as now.
use Rattle.std.proofs.Common.{◌≡◌, ℕ, ◌<◌, false, get_or}
use Rattle.hz_run_tests.proofs.gates.is_candidate.Given as goal

abbrev pub invariant-loop-pin : goal.invariant-loop-pin
invariant-loop-pin l = (k : ℕ) → k < l.pin → get_or l.free k false ≡ false → get_or l.list k false ≡ get_or l.now k false
