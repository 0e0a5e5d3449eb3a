-- What a block is made of, and what is used anew for each.
use Rattle.std.specs.Prelude.{◌≡◌}
use Rattle.hz_core.specs.Netlist.{Netlist}
use Rattle.hz_pattern_text.specs.PatternText.{ArePatternsFor}
use Rattle.hz_text.specs.Printed.{listed_from}
use Rattle.hz_batch.specs.declared.blocks.Work.{Work}
use Rattle.hz_batch.specs.declared.blocks.Room.{Room}
use Rattle.hz_batch.specs.Comes.{held_by}
use Rattle.hz_batch.specs.Kept.{AreColumnsFor}
use Rattle.hz_batch.specs.Lines.{IsLineFor}

-- the patterns are those of the network's circuit, and the gates that are held at the start are theirs
pub record IsWork (work : Work) : Type 0 where
  pub patterns : ArePatternsFor work.net.now work.patterns.now
  pub held : work.held.now ≡ listed_from 0 (held_by work.job work.patterns.now.held)

-- there is room for each output of a circuit
pub record IsRoomFor (netlist : Netlist) (room : Room) : Type 0 where
  pub line : IsLineFor netlist room.line
  pub columns : AreColumnsFor netlist room.columns
