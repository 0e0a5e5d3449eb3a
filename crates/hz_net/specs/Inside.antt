-- What a network's fields stand for.
use Rattle.std.specs.Prelude.{length}
use Rattle.hz_core.specs.Netlist.{IsCircuit, IsWhole}
use Rattle.hz_net.specs.Entries.{AreParts}
use Rattle.hz_net.specs.FanOuts.{IsSplit, readers_by_node}
use Rattle.hz_net.specs.declared.net.Net.TheInside.{Inside}

-- the fields hold a whole circuit, its gates and wires, and the wires of each node
pub record HoldsNetwork (fields : Inside) : Type 0 where
  pub circuit : IsCircuit fields.circuit
  pub whole : IsWhole fields.circuit
  pub parts : AreParts fields.circuit fields.parts.gates.items fields.parts.goes.items
      fields.parts.comes.items
  pub fan_out : IsSplit fields.fan_out.starts.items fields.fan_out.readers.items
      (readers_by_node (length fields.circuit.names) fields.parts.comes.items)
