use Rattle.std.proofs.Common.{◌≡◌, drop}
use Rattle.std.specs.List.{list_any}
use Rattle.hz_blif.specs.Fault.{is_too_long}
use Rattle.hz_blif.specs.Reading.{bytes_of}
use Rattle.hz_blif.proofs.line.has_long.Given as goal

abbrev pub invariant-loop-name : goal.invariant-loop-name
invariant-loop-name l = list_any is_too_long (bytes_of (drop l.name-index l.names)) ≡ list_any is_too_long (bytes_of l.names)
