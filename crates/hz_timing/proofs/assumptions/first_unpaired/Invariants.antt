use Rattle.std.proofs.Common.{◌≡◌, drop}
use Rattle.hz_timing.proofs.Words.{first_passing_line, numbered_timed_resolutions, is_unpaired}
use Rattle.hz_timing.proofs.assumptions.first_unpaired.Given as goal

abbrev pub invariant-loop-entry : goal.invariant-loop-entry
invariant-loop-entry l = first_passing_line (is_unpaired l.net) (numbered_timed_resolutions l.entries) ≡ first_passing_line (is_unpaired l.net) (numbered_timed_resolutions (drop l.entry-index l.entries))
