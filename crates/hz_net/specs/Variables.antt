-- The variables of the complete network by what they are, and how nodes and wires hang together.
use Rattle.std.specs.Prelude.{ℕ, suc, ◌+◌, ◌-◌, Bool, List, [], ◌∷◌, ◌++◌, length, map, take, sum_by, if◌then◌else◌, ◌==◌}
use Rattle.std.specs.List.{range_with_len, slice_range}
use Rattle.hz_core.specs.Netlist.{Netlist, gate_at}
use Rattle.hz_net.specs.Network.{Wire, wires_of, bit_at}
use Rattle.hz_net.specs.declared.variable.VarKind.{VarKind}
use Rattle.hz_net.specs.declared.variable.VarKind.TheVariants.{Input, Gate as GateVariable, Wire as WireVariable}

-- what each variable is: inputs, then gates, then wires by gate and pin
abbrev pub variable_kinds : Netlist → List VarKind
variable_kinds netlist =
    map Input (range_with_len 0 netlist.inputs)
    ++ map (λ gate. GateVariable gate.kind) netlist.gates
    ++ map (λ wire. WireVariable wire.gate wire.pin wire.source) (wires_of netlist)

-- the first wire of a gate: behind the nodes and the wires of the earlier gates
abbrev pub first_wire : Netlist → ℕ → ℕ
first_wire netlist gate =
    length netlist.names
    + sum_by (λ earlier. length earlier.sources) (take (gate - netlist.inputs) netlist.gates)

-- what a list over all variables has at the wires of a gate
abbrev pub at_wires : {X : Type 0} → Netlist → ℕ → List X → List X
at_wires netlist gate list =
    slice_range list (first_wire netlist gate)
    (first_wire netlist gate + length (gate_at netlist gate).sources)

-- of wires whose variables begin at a number, the variables of those that come from a node
abbrev pub readers_from : ℕ → List Wire → ℕ → List ℕ
readers_from first [] node = []
readers_from first (wire ∷ wires) node =
    if wire.source == node then first ∷ readers_from (suc first) wires node
    else readers_from (suc first) wires node

-- the fan-out of a node: the wires that come from it, ascending
abbrev pub fan_out_of : Netlist → ℕ → List ℕ
fan_out_of netlist node = readers_from (length netlist.names) (wires_of netlist) node

-- the state in which each node has a given value and each wire its source's
abbrev pub expansion_of : Netlist → List Bool → List Bool
expansion_of netlist nodes = nodes ++ map (λ wire. bit_at nodes wire.source) (wires_of netlist)
