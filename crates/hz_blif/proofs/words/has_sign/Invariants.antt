use Rattle.std.proofs.Common.{◌≡◌, drop}
use Rattle.std.specs.List.{list_any}
use Rattle.hz_blif.specs.Fault.{is_sign}
use Rattle.hz_blif.proofs.words.has_sign.Given as goal

abbrev pub invariant-loop-byte : goal.invariant-loop-byte
invariant-loop-byte l = list_any is_sign (drop l.byte-index l.name) ≡ list_any is_sign l.name
