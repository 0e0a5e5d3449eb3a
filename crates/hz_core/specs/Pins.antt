-- Pins that come at once.
use Rattle.std.specs.Prelude.{ℕ, ◌-◌, ◌++◌, List, slice_set}
use Rattle.hz_core.specs.Netlist.{Gate, Netlist, gate_at}

-- the gate with more pins, after its last pin
abbrev pub with_sources : Gate → List ℕ → Gate
with_sources gate sources = record gate { sources = gate.sources ++ sources }

-- the circuit with more pins at a gate
abbrev pub with_pins : Netlist → ℕ → List ℕ → Netlist
with_pins netlist node sources =
    record netlist {
      gates =
          slice_set netlist.gates (node - netlist.inputs)
          (with_sources (gate_at netlist node) sources);
    }
