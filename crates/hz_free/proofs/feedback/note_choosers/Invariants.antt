-- The variables so far are noted.
use Rattle.std.proofs.Common.{take}
use Rattle.hz_free.specs.Paths.{HaveChoosers}
use Rattle.hz_free.proofs.feedback.note_choosers.Given as goal

abbrev pub invariant-loop-var : goal.invariant-loop-var
invariant-loop-var l = HaveChoosers l.choices (take l.var-index l.cycle) l.fn.choosers l.choosers
