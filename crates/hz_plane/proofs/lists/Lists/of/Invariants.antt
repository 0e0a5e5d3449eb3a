use Rattle.std.proofs.Common.{map, take, ℕ}
use Rattle.smallvec.specs.SmallVec.{SmallVec}
use Rattle.hz_plane.proofs.ListParts.{AreLaid}
use Rattle.hz_plane.proofs.lists.Lists.of.Given as goal

abbrev pub invariant-loop-list : goal.invariant-loop-list
invariant-loop-list l = AreLaid l.ends.items l.numbers.items (map (λ (list : SmallVec ℕ). list.items) (take l.list-index l.lists))
