use Rattle.std.proofs.Common.{◌≡◌, drop}
use Rattle.hz_line.specs.Statement.{first_passing_line}
use Rattle.hz_script.specs.ScriptFault.{is_start}
use Rattle.hz_script.specs.Resolution.{numbered_resolutions}
use Rattle.hz_script.proofs.rules.first_start.Given as goal

abbrev pub invariant-loop-entry : goal.invariant-loop-entry
invariant-loop-entry l = first_passing_line (is_start) (numbered_resolutions l.entries) ≡ first_passing_line (is_start) (numbered_resolutions (drop l.entry-index l.entries))
