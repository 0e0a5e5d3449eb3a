use Rattle.std.proofs.Common.{◌≡◌, drop}
use Rattle.hz_timing.proofs.Words.{timed_resolution_of, is_stated}
use Rattle.hz_timing.proofs.EntryLaws.{stated_by}
use Rattle.hz_timing.proofs.assumptions.states_any.Given as goal

abbrev pub invariant-loop-entry : goal.invariant-loop-entry
invariant-loop-entry l = is_stated (stated_by l.before) (timed_resolution_of l.held) ≡ is_stated (stated_by (drop l.entry-index l.before)) (timed_resolution_of l.held)
