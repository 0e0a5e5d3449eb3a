use Rattle.std.proofs.Common.{◌≡◌, map, drop}
use Rattle.std.specs.List.{fold}
use Rattle.hz_plane.specs.Bits.{IsPlane}
use Rattle.hz_plane.specs.Pairs.{pair_at, and_pair, known_pair, fold_pins}
use Rattle.hz_plane.proofs.ones.conjunction.Given as goal

abbrev pub invariant-loop-source : goal.invariant-loop-source
invariant-loop-source l = record {
  plane : IsPlane l.ones;
  pair : fold and_pair (known_pair l.ones) (map (pair_at l.planes) (drop l.source-index l.source-items)) ≡ fold_pins and_pair (map (pair_at l.planes) l.sources);
}
