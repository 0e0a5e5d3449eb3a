use Rattle.std.proofs.Common.{◌≡◌, [], take, drop}
use Rattle.hz_timing.proofs.Words.{numbered_timed_resolutions, is_stated, first_line_behind}
use Rattle.hz_timing.proofs.EntryLaws.{stated_by}
use Rattle.hz_timing.proofs.assumptions.first_stated.Given as goal

abbrev pub invariant-loop-place : goal.invariant-loop-place
invariant-loop-place l = first_line_behind is_stated [] (numbered_timed_resolutions l.entries) ≡ first_line_behind is_stated (stated_by (take l.place l.entries)) (numbered_timed_resolutions (drop l.place l.entries))
