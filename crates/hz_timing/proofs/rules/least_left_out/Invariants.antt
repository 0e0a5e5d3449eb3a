use Rattle.std.proofs.Common.{◌≡◌, drop}
use Rattle.hz_timing.proofs.Words.{numbered_timed_resolutions, counted}
use Rattle.hz_timing.specs.TimedRules.{left_out_by_any}
use Rattle.hz_timing.proofs.rules.least_left_out.Given as goal

abbrev pub invariant-loop-entry : goal.invariant-loop-entry
invariant-loop-entry l = left_out_by_any l.inputs (counted l.again (numbered_timed_resolutions l.entries)) ≡ left_out_by_any l.least (counted l.again (numbered_timed_resolutions (drop l.entry-index l.entries)))
