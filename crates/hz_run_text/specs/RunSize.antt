-- The size of a network, and where a size that is told differs from it.
use Rattle.std.specs.Prelude.{ℕ, nat_eq, length, Option, Some, None, if◌then◌else◌}
use Rattle.hz_core.specs.Netlist.{Netlist, pin_count}
use Rattle.hz_run_text.specs.declared.size.Size.{Size}

-- how many inputs, gates and wires the network of a circuit has
abbrev pub size_of : Netlist → Size
size_of netlist =
    record { inputs = netlist.inputs; gates = length netlist.gates; wires = pin_count netlist }

-- the first count in which two sizes differ, as each has it
abbrev pub difference : Size → Size → Option (ℕ × ℕ)
difference told real =
    if nat_eq told.inputs real.inputs
    then (if nat_eq told.gates real.gates then (if nat_eq told.wires real.wires then None
    else Some (told.wires, real.wires)) else Some (told.gates, real.gates))
    else Some (told.inputs, real.inputs)
