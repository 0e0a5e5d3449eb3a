-- What the fields of a reset hold.
use Rattle.std.specs.Prelude.{length}
use Rattle.hz_reset.specs.declared.reset.Reset.TheInside.{Inside}
use Rattle.hz_reset.specs.Room.{IsRoomFor}

-- there is room for a pass over all variables
abbrev pub HoldsReset : Inside → Type 0
HoldsReset fields = IsRoomFor (length fields.values.items) fields.room
