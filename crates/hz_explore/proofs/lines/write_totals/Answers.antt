-- The numbers in their places.
use Rattle.std.proofs.Common.{refl, append_assoc, append-nil}
use Rattle.hz_write.proofs.Writers.{writes_then}
use Rattle.hz_explore.proofs.lines.write_totals.Goals as goal

pub returns-clause-gave : goal.returns-clause-gave
returns-clause-gave g c = writes_then c.write_whole.ensures c.line.ensures.gave (simp (append_assoc, append-nil) (rw c.changes.ensures refl))
