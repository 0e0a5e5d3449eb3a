-- The room for a network. Words about the inside of hz_desk.
use Rattle.std.specs.Prelude.{◌≡◌, length}
use Rattle.hz_core.specs.Netlist.{Netlist}
use Rattle.hz_net.specs.Network.{network_of}
use Rattle.hz_free.specs.FreePart.{IsFreePart}
use Rattle.hz_reach.specs.Given.{IsScratchFor}
use Rattle.hz_desk.specs.ResultsOfPasses.{HavePassRoom}
use Rattle.hz_desk.specs.FindingRoom.{HasRooms}
use Rattle.hz_desk.specs.declared.room.Room.{Room}

-- all parts are those of the network, and have its room
pub record IsRoomFor (netlist : Netlist) (room : Room) : Type 0 where
  pub free : IsFreePart netlist room.free
  pub passes : HavePassRoom netlist room.passes
  pub scratch : IsScratchFor netlist room.scratch
  pub follower : room.follower.circuit ≡ netlist
  pub finding : HasRooms (length (network_of netlist)) netlist.inputs room.finding
