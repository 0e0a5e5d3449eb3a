-- The starts of the parts so far are accepted.
use Rattle.std.proofs.Common.{Bool, List, take}
use Rattle.hz_timing.specs.Timed.{AreAcceptedStarts}
use Rattle.hz_edge_reports.proofs.job.check_starts.Given as goal

abbrev pub invariant-loop-place : goal.invariant-loop-place
invariant-loop-place l = (starts : List (List Bool)) × AreAcceptedStarts l.net (take l.place l.script.parts) starts
