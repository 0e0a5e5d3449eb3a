-- The numbers in their places.
use Rattle.std.proofs.Common.{refl, append_assoc, append-nil}
use Rattle.hz_write.proofs.Writers.{writes_same}
use Rattle.hz_explore.proofs.lines.write_classes.Goals as goal

pub returns : goal.returns
returns g c = writes_same c.add.ensures (simp (append_assoc, append-nil) refl)
