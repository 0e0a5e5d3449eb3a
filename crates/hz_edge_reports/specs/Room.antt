-- The memory in which changes are made, what it holds, and where a change leads.
use Rattle.std.specs.Prelude.{◌≡◌, ℕ, ◌⊎◌, None, Some, All}
use Rattle.hz_core.specs.Netlist.{Netlist, IsCircuit, IsWhole}
use Rattle.hz_net.specs.Network.{AreByVariable, IsState, IsInput}
use Rattle.hz_free.specs.FreePart.{IsFreePart}
use Rattle.hz_options.specs.Numbers.{IsCap}
use Rattle.hz_timing.specs.TimedText.{IsAssumptionOf}
use Rattle.hz_edges.specs.Room.{IsEdgeRoom, edges_of}
use Rattle.hz_edge_reports.specs.declared.room.ChangeRoom.{ChangeRoom}
use Rattle.hz_edge_reports.specs.declared.finding.Making.{Making}
use Rattle.hz_edge_reports.specs.EdgeChanges.{ChangeOf, IsNextStart, IsStopper}

-- what was found last
abbrev pub change_of : ChangeRoom → ChangeOf
change_of room =
    record {
      input = room.input.items;
      start = room.start.items;
      a = room.edges.a.items;
      b = room.edges.b.items;
      used = room.used.items;
      idle = room.idle;
      ends = room.ends.items;
      kept = room.kept;
      edges = edges_of room.edges;
    }

-- there is a place for each variable, and for each input
pub record IsChangeRoom (netlist : Netlist) (room : ChangeRoom) : Type 0 where
  pub start : IsState netlist room.start.items
  pub input : IsInput netlist room.input.items
  pub edges : IsEdgeRoom netlist room.edges
  pub ends : AreByVariable netlist room.ends.items

-- changes can be made: what all of them have in common fits
pub record CanBeMade (making : Making) : Type 0 where
  pub circuit : IsCircuit making.net.now
  pub whole : IsWhole making.net.now
  pub free : IsFreePart making.net.now making.free.now
  pub assumptions : All (IsAssumptionOf making.net.now) making.assumptions.now
  pub cap : IsCap making.cap

-- where a change that was found last leads: the next one starts there, or a variable stops all later ones
abbrev pub Leads : Netlist → ChangeOf → ChangeRoom → Type 0
Leads netlist found room =
    ((room.stopped ≡ None) × IsNextStart netlist found.ends room.start.items)
    ⊎ ((var : ℕ) × (room.stopped ≡ Some var) × IsStopper netlist found.input found.ends var)
