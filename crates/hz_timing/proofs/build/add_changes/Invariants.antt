use Rattle.std.proofs.Common.{◌≡◌, ◌++◌, drop, map}
use Rattle.hz_timing.proofs.Words.{assignment_to, numbered_timed_resolutions, changes_up_to_start}
use Rattle.hz_timing.proofs.build.add_changes.Given as goal

abbrev pub invariant-loop-entry : goal.invariant-loop-entry
invariant-loop-entry l = record {
  start : l.script.start ≡ l.initial.script.start;
  rest : map (map assignment_to) l.script.changes ++ map (λ numbered. numbered.statement.assigned) (changes_up_to_start (numbered_timed_resolutions (drop l.entry-index l.entries)))
      ≡ map (λ numbered. numbered.statement.assigned) (changes_up_to_start (numbered_timed_resolutions l.entries));
}
