use Rattle.std.proofs.Common.{◌≡◌, false, drop}
use Rattle.hz_timing.proofs.Words.{numbered_timed_resolutions, misplaced_from}
use Rattle.hz_timing.proofs.order.first_misplaced.Given as goal

abbrev pub invariant-loop-entry : goal.invariant-loop-entry
invariant-loop-entry l = misplaced_from l.again false false (numbered_timed_resolutions l.entries) ≡ misplaced_from l.again l.started l.changed (numbered_timed_resolutions (drop l.entry-index l.entries))
