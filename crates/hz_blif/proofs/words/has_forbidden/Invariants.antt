use Rattle.std.proofs.Common.{◌≡◌, drop}
use Rattle.std.specs.List.{list_any}
use Rattle.hz_blif.specs.Fault.{is_forbidden}
use Rattle.hz_blif.proofs.words.has_forbidden.Given as goal

abbrev pub invariant-loop-byte : goal.invariant-loop-byte
invariant-loop-byte l = list_any is_forbidden (drop l.byte-index l.line) ≡ list_any is_forbidden l.line
