use Rattle.std.proofs.Common.{◌≡◌, drop}
use Rattle.hz_blif.specs.Gates.{has_zero}
use Rattle.hz_blif.specs.Reading.{bytes_of}
use Rattle.hz_blif.proofs.gates.has_zero.Given as goal

abbrev pub invariant-loop-plane : goal.invariant-loop-plane
invariant-loop-plane l = has_zero (bytes_of (drop l.plane-index l.planes)) l.pin ≡ has_zero (bytes_of l.planes) l.pin
