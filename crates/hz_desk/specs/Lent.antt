-- What a desk is once a finding that borrows it is gone.
use Rattle.std.specs.Prelude.{[]}
use Rattle.std.specs.Borrow.{MutBor, Fml}
use Rattle.std.specs.Io.BufRead.{Rests}
use mir.Syntax.{named}
use Rattle.hz_desk.specs.Desk.{DeskOf}
use Rattle.hz_desk.specs.contracts.desk.Desk.{the_row}

-- It has a property. `named 0` is the place of the network's lifetime in the signature.
abbrev pub LeavesDesk : MutBor DeskOf → (DeskOf → Type 0) → Fml
LeavesDesk desk holds = Rests (the_row (record { mir = named 0; lft = [] })) desk holds
