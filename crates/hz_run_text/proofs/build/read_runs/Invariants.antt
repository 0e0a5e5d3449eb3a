use Rattle.std.proofs.Common.{◌≡◌, ◌++◌, None, drop}
use Rattle.std.specs.List.{flat_map}
use Rattle.hz_run_text.specs.RunOrder.{first_misplaced}
use Rattle.hz_run_text.specs.RunResolution.{numbered_run_resolutions}
use Rattle.hz_run_text.specs.RunText.{run_statements, statements_without_lines}
use Rattle.hz_run_text.specs.RunBuilt.{last_place}
use Rattle.hz_run_text.proofs.build.read_runs.Given as goal

abbrev pub invariant-loop-entry : goal.invariant-loop-entry
invariant-loop-entry l = record {
  read : statements_without_lines (numbered_run_resolutions l.entries) ≡ flat_map run_statements l.runs ++ statements_without_lines (numbered_run_resolutions (drop l.entry-index l.entries));
  ordered : first_misplaced (last_place l.runs) (numbered_run_resolutions (drop l.entry-index l.entries)) ≡ None;
}
