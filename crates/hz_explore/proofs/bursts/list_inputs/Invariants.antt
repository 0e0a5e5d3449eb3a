-- The inputs so far.
use Rattle.std.proofs.Common.{◌≡◌}
use Rattle.hz_explore.specs.Bursts.{each_input}
use Rattle.hz_explore.proofs.bursts.list_inputs.Given as goal

abbrev pub invariant-loop-input : goal.invariant-loop-input
invariant-loop-input l = l.pairs.items ≡ each_input l.input
