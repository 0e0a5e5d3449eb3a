use Rattle.std.proofs.Common.{◌≡◌, ℕ, [], map, replicate}
use Rattle.smallvec.specs.SmallVec.{SmallVec}
use Rattle.hz_plane.proofs.readers.empty_lists.Given as goal

abbrev pub invariant-loop-list : goal.invariant-loop-list
invariant-loop-list l = map (λ (list : SmallVec ℕ). list.items) l.lists.items ≡ replicate l._list []
