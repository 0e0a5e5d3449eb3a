use Rattle.std.proofs.Common.{◌≡◌, take, map}
use Rattle.hz_script.specs.Resolution.{numbered_resolutions}
use Rattle.hz_text.specs.Assignment.{assignment_to}
use Rattle.hz_script.proofs.build.add_changes.Given as goal

abbrev pub invariant-loop-entry : goal.invariant-loop-entry
invariant-loop-entry l = record {
  start : l.script.start ≡ l.initial.script.start;
  changes : map (map assignment_to) l.script.changes ≡ map (λ numbered. numbered.statement.assigned) (numbered_resolutions (take l.entry-index l.entries));
}
