use Rattle.std.proofs.Common.{◌≡◌, length}
use Rattle.hz_plane.proofs.classes.no_ready.Given as goal

abbrev pub invariant-loop-class : goal.invariant-loop-class
invariant-loop-class l = length l.ready.items ≡ l._class
