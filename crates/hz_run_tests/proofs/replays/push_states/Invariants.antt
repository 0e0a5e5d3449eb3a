use Rattle.std.proofs.Common.{◌≡◌}
use Rattle.hz_run_tests.proofs.replays.push_states.Given as goal

-- the circuit stays
abbrev pub invariant-loop-number : goal.invariant-loop-number
invariant-loop-number l = l.replay.circuit ≡ l.fn.replay.circuit
