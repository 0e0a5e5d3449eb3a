use Rattle.std.proofs.Common.{◌≡◌, ℕ, map, take}
use Rattle.smallvec.specs.SmallVec.{SmallVec}
use Rattle.hz_plane.specs.Sweeps.{readers_at}
use Rattle.hz_plane.proofs.readers.all_readers.Given as goal

abbrev pub invariant-loop-place : goal.invariant-loop-place
invariant-loop-place l = map (λ (list : SmallVec ℕ). list.items) l.lists.items ≡ map (readers_at l.by_node) (take l.place l.order)
