use Rattle.std.proofs.Common.{◌≡◌, drop}
use Rattle.hz_line.specs.Statement.{first_passing_line}
use Rattle.hz_pattern_text.specs.PatternFault.{is_hold}
use Rattle.hz_pattern_text.specs.PatternResolution.{numbered_pattern_resolutions}
use Rattle.hz_pattern_text.proofs.rules.first_hold.Given as goal

abbrev pub invariant-loop-entry : goal.invariant-loop-entry
invariant-loop-entry l = first_passing_line is_hold (numbered_pattern_resolutions l.entries) ≡ first_passing_line is_hold (numbered_pattern_resolutions (drop l.entry-index l.entries))
