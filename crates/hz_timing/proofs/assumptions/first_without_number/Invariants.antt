use Rattle.std.proofs.Common.{◌≡◌, drop}
use Rattle.hz_timing.proofs.Words.{first_passing_line, numbered_timed_resolutions, lacks_number}
use Rattle.hz_timing.proofs.assumptions.first_without_number.Given as goal

abbrev pub invariant-loop-entry : goal.invariant-loop-entry
invariant-loop-entry l = first_passing_line lacks_number (numbered_timed_resolutions l.entries) ≡ first_passing_line lacks_number (numbered_timed_resolutions (drop l.entry-index l.entries))
