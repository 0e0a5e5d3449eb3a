-- What a pass needs beside the values.
use Rattle.std.specs.Prelude.{◌≡◌, ℕ, length}
use Rattle.hz_reset.specs.declared.reset.Room.{Room}

-- there is room for a pass over so many variables
pub record IsRoomFor (variables : ℕ) (room : Room) : Type 0 where
  pub rounds : length room.rounds.items ≡ variables
  pub work : length room.work.items ≡ variables
  pub front : room.front ≡ variables
