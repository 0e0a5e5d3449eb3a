use Rattle.std.proofs.Common.{◌≡◌, drop}
use Rattle.hz_blif.specs.Cover.{has_literal}
use Rattle.hz_blif.proofs.cover.has_literal.Given as goal

abbrev pub invariant-loop-byte : goal.invariant-loop-byte
invariant-loop-byte l = has_literal (drop l.byte-index l.plane) ≡ has_literal l.plane
