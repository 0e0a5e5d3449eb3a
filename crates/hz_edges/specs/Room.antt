-- The memory in which edges are found, and what it holds. Words about the inside of hz_edges.
use Rattle.hz_core.specs.Netlist.{Netlist}
use Rattle.hz_net.specs.Network.{AreByVariable, IsState}
use Rattle.hz_desk.specs.ResultsOfPasses.{HavePassRoom}
use Rattle.hz_edges.specs.declared.finding.EdgeRoom.{EdgeRoom}
use Rattle.hz_edges.specs.Edges.{EdgesOf}

-- what was found last
abbrev pub edges_of : EdgeRoom → EdgesOf
edges_of room =
    record { told = room.told.items; steps = room.run.steps; counts = room.counts.items }

-- there is a place for each variable
pub record IsEdgeRoom (netlist : Netlist) (room : EdgeRoom) : Type 0 where
  pub told : AreByVariable netlist room.told.items
  pub counts : AreByVariable netlist room.counts.items
  pub passes : HavePassRoom netlist room.passes
  pub a : IsState netlist room.a.items
  pub b : IsState netlist room.b.items
