use Rattle.std.proofs.Common.{◌≡◌, ℕ, map, take}
use Rattle.smallvec.specs.SmallVec.{SmallVec}
use Rattle.hz_plane.specs.Forward.{pins_at}
use Rattle.hz_plane.proofs.copies.all_pins.Given as goal

abbrev pub invariant-loop-place : goal.invariant-loop-place
invariant-loop-place l = map (λ (list : SmallVec ℕ). list.items) l.lists.items ≡ pins_at l.net (take l.place l.order)
