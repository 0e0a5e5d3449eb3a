use Rattle.std.proofs.Common.{◌≡◌, ◌≤◌, drop}
use Rattle.hz_run_text.specs.RunFault.{beyond_from}
use Rattle.hz_run_text.specs.RunResolution.{numbered_run_resolutions}
use Rattle.hz_run_text.proofs.rules.line_beyond.Given as goal
use Rattle.hz_run_text.specs.Limits.{most_steps}

abbrev pub invariant-loop-entry : goal.invariant-loop-entry
invariant-loop-entry l = record {
  few_steps : l.steps ≤ most_steps;
  few_variables : l.variables ≤ most_steps;
  rest : beyond_from 0 0 (numbered_run_resolutions l.entries) ≡ beyond_from l.steps l.variables (numbered_run_resolutions (drop l.entry-index l.entries));
}
