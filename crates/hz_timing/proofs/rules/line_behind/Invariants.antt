use Rattle.std.proofs.Common.{◌≡◌, drop}
use Rattle.hz_timing.specs.TimedResolution.{timed_keyword_by, numbered_timed_resolutions}
use Rattle.hz_timing.specs.TimedRules.{is_of, line_from}
use Rattle.hz_timing.proofs.rules.line_behind.Given as goal

abbrev pub invariant-loop-entry : goal.invariant-loop-entry
invariant-loop-entry l =
    line_from (is_of (timed_keyword_by l.keyword)) l.most (numbered_timed_resolutions l.entries) ≡ line_from (is_of (timed_keyword_by l.keyword)) l.left (numbered_timed_resolutions (drop l.entry-index l.entries))
