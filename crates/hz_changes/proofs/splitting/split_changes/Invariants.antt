-- The changes so far are analysed, and all of them settle.
use Rattle.std.proofs.Common.{◌≡◌, List, None, length, take}
use Rattle.hz_changes.proofs.Words.{Analysis, AreFirstAnalyses}
use Rattle.hz_changes.proofs.SplitLines.{AreQuiet}
use Rattle.hz_changes.proofs.splitting.split_changes.Given as goal

abbrev pub invariant-loop-number : goal.invariant-loop-number
invariant-loop-number g l =
    (analyses : List Analysis)
    × AreFirstAnalyses l.net l.cap l.fn.sequence.start (take l.number l.script.changes) analyses l.sequence
    × (length analyses ≡ length (take l.number l.script.changes))
    × AreQuiet analyses
    × (l.sequence.stopped ≡ None)
    × (l.out ≡ l.fn.out)
