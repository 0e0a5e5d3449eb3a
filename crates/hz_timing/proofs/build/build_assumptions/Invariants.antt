use Rattle.std.proofs.Common.{◌≡◌, ◌++◌, drop}
use Rattle.hz_timing.proofs.Words.{numbered_timed_resolutions, assumptions_in}
use Rattle.hz_timing.proofs.build.build_assumptions.Given as goal

abbrev pub invariant-loop-entry : goal.invariant-loop-entry
invariant-loop-entry l = l.assumptions.items ++ assumptions_in (numbered_timed_resolutions (drop l.entry-index l.entries)) ≡ assumptions_in (numbered_timed_resolutions l.entries)
