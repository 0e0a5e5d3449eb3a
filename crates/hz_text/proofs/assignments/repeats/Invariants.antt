use Rattle.std.proofs.Common.{take}
use Rattle.hz_text.proofs.NodeLemmas.{AreMarked}
use Rattle.hz_text.proofs.assignments.repeats.Given as goal

abbrev pub invariant-loop-assigned : goal.invariant-loop-assigned
invariant-loop-assigned l = AreMarked (take l.assigned-index l.all) l.marks l.mark
