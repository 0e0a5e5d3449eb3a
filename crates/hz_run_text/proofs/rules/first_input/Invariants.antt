use Rattle.std.proofs.Common.{◌≡◌, drop}
use Rattle.hz_run_text.specs.RunRules.{first_input}
use Rattle.hz_run_text.specs.RunResolution.{numbered_run_resolutions}
use Rattle.hz_run_text.proofs.rules.first_input.Given as goal

abbrev pub invariant-loop-entry : goal.invariant-loop-entry
invariant-loop-entry l = first_input (numbered_run_resolutions l.entries) ≡ first_input (numbered_run_resolutions (drop l.entry-index l.entries))
