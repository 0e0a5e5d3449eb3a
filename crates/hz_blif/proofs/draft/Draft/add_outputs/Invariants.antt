use Rattle.std.proofs.Common.{take}
use Rattle.hz_blif.specs.Draft.{Holds, Read, with_outputs}
use Rattle.hz_blif.specs.Reading.{bytes_of}
use Rattle.hz_blif.proofs.draft.Draft.add_outputs.Given as goal

abbrev pub invariant-loop-name : goal.invariant-loop-name
invariant-loop-name l = (read : Read) → Holds read l.fn.self → Holds (with_outputs l.line (bytes_of (take l.name-index l.names)) read) l.self
