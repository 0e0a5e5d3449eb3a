-- A line of outputs for a circuit.
use Rattle.std.specs.Prelude.{◌≡◌, length}
use Rattle.hz_core.specs.Netlist.{Netlist}
use Rattle.hz_batch.specs.Outputs.{LineOf}

-- the line is one of a circuit's outputs, each with its two values
pub record IsLineFor (netlist : Netlist) (line : LineOf) : Type 0 where
  pub same : line.netlist ≡ netlist
  pub count : length line.values ≡ length netlist.outputs
