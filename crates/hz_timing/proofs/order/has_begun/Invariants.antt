use Rattle.std.proofs.Common.{◌≡◌, drop}
use Rattle.hz_timing.proofs.Words.{numbered_timed_resolutions, has_begun}
use Rattle.hz_timing.proofs.order.has_begun.Given as goal

abbrev pub invariant-loop-entry : goal.invariant-loop-entry
invariant-loop-entry l = has_begun (numbered_timed_resolutions l.entries) ≡ has_begun (numbered_timed_resolutions (drop l.entry-index l.entries))
