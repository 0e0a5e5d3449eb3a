use Rattle.std.proofs.Common.{◌≡◌, take}
use Rattle.hz_plane.specs.Forward.{kinds_at}
use Rattle.hz_plane.proofs.copies.list_kinds.Given as goal

abbrev pub invariant-loop-place : goal.invariant-loop-place
invariant-loop-place l = l.kinds.items ≡ kinds_at l.net (take l.place l.order)
