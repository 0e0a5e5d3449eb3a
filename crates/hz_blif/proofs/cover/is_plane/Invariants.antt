use Rattle.std.proofs.Common.{◌≡◌, drop}
use Rattle.std.specs.List.{list_all}
use Rattle.hz_blif.specs.Cover.{is_plane_byte}
use Rattle.hz_blif.proofs.cover.is_plane.Given as goal

abbrev pub invariant-loop-byte : goal.invariant-loop-byte
invariant-loop-byte l = list_all is_plane_byte (drop l.byte-index l.plane) ≡ list_all is_plane_byte l.plane
