-- What a circuit's fields stand for.
use Rattle.std.specs.Prelude.{◌≡◌}
use Rattle.hz_core.specs.Netlist.{Netlist, pin_count, IsCircuit}
use Rattle.hz_core.specs.declared.circuit.Circuit.TheInside.{Inside}

-- the circuit that the fields hold
abbrev pub netlist_of_fields : Inside → Netlist
netlist_of_fields fields =
    record {
      names = fields.names.keys;
      inputs = fields.inputs;
      cuts = fields.cuts.items;
      gates = fields.gates.items;
      outputs = fields.outputs;
    }

-- the fields hold a circuit, and count its pins
pub record HoldsCircuit (fields : Inside) : Type 0 where
  pub circuit : IsCircuit (netlist_of_fields fields)
  pub counted : fields.pins ≡ pin_count (netlist_of_fields fields)
