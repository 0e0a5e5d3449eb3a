use Rattle.std.proofs.Common.{◌≡◌, ◌++◌, [], Some, take}
use Rattle.hz_blif.specs.Cover.{Cover}
use Rattle.hz_blif.specs.Draft.{Holds, Read}
use Rattle.hz_blif.specs.Reading.{bytes_of}
use Rattle.hz_blif.proofs.draft.Draft.add_pins.Given as goal

abbrev pub invariant-loop-pin : goal.invariant-loop-pin
invariant-loop-pin l = (read : Read) (cover : Cover) → read.current ≡ Some cover → cover.rows ≡ [] → Holds read l.fn.self
    → Holds (record read { current = Some (record cover { pins = cover.pins ++ bytes_of (take l.pin-index l.pins) }) }) l.self
