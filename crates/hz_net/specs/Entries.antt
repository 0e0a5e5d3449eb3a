-- The variables as a network keeps them: each with what drives it and what it is.
use Rattle.std.specs.Prelude.{◌≡◌, ℕ, ◌+◌, ◌-◌, ◌<◌, ◌≤◌, List, [], ◌∷◌, ◌++◌, length, map, IsTrue, slice_get, Some}
use Rattle.std.specs.List.{range_with_len}
use Rattle.hz_core.specs.Gate.{takes}
use Rattle.hz_core.specs.Netlist.{Netlist, Gate, IsGateNumber, gate_at}
use Rattle.hz_net.specs.Network.{Wire, wires_of, Driver, External, Function, Source, network_of}
use Rattle.hz_net.specs.Variables.{first_wire}
use Rattle.hz_net.specs.declared.variable.VarKind.{VarKind}
use Rattle.hz_net.specs.declared.variable.VarKind.TheVariants.{Input as InputKind, Gate as GateKind, Wire as WireKind}
use Rattle.hz_net.specs.declared.entry.GateWires.{GateWires}
use Rattle.hz_net.specs.declared.entry.Entry.{Entry}
use Rattle.hz_net.specs.declared.entry.Entry.TheVariants.{Input as InputEntry, Gate as GateEntry, Wire as WireEntry}

-- what drives a variable
abbrev pub driver_of : Entry → Driver
driver_of (InputEntry number) = External number
driver_of (GateEntry kind first pins) = Function kind first pins
driver_of (WireEntry pin gate source) = Source source

-- what a variable is
abbrev pub entry_kind : Entry → VarKind
entry_kind (InputEntry number) = InputKind number
entry_kind (GateEntry kind first pins) = GateKind kind
entry_kind (WireEntry pin gate source) = WireKind gate pin source

-- the entries of gates, the wires of the first of which begin at a variable
abbrev pub gate_entries : ℕ → List Gate → List Entry
gate_entries first [] = []
gate_entries first (gate ∷ gates) =
    GateEntry gate.kind first (length gate.sources)
    ∷ gate_entries (first + length gate.sources) gates

-- the entry of a wire
abbrev pub wire_entry : Wire → Entry
wire_entry wire = WireEntry wire.pin wire.gate wire.source

-- the entries of a circuit: inputs, then gates, then wires by gate and pin
unfoldable pub entries_of : Netlist → List Entry
entries_of netlist =
    map InputEntry (range_with_len 0 netlist.inputs)
    ++ gate_entries (length netlist.names) netlist.gates
    ++ map wire_entry (wires_of netlist)

-- the entry of a gate as it is kept
abbrev pub gate_entry : GateWires → Entry
gate_entry kept = GateEntry kept.kind kept.first kept.pins

-- three lists hold the gates and wires of a circuit: each gate with its wires, and of each wire its gate and its source
pub record AreParts (netlist : Netlist) (kept : List GateWires) (into from : List ℕ) : Type 0 where
  pub gates : map gate_entry kept ≡ gate_entries (length netlist.names) netlist.gates
  pub goes : into ≡ map (λ wire. wire.gate) (wires_of netlist)
  pub comes : from ≡ map (λ wire. wire.source) (wires_of netlist)

-- an entry is right for a variable of a whole circuit, and all that it names is there
abbrev pub IsEntryAt : Netlist → ℕ → Entry → Type 0
IsEntryAt netlist var (InputEntry number) = (number ≡ var) × (var < netlist.inputs)
IsEntryAt netlist var (GateEntry kind first pins) =
    IsGateNumber netlist var × (first ≡ first_wire netlist var)
    × (pins ≡ length (gate_at netlist var).sources)
    × (first + pins ≤ length (network_of netlist)) × IsTrue (takes kind pins)
IsEntryAt netlist var (WireEntry pin gate source) =
    (length netlist.names ≤ var) × (source < length netlist.names)
    × (slice_get (wires_of netlist) (var - length netlist.names)
    ≡ Some (record { gate = gate; pin = pin; source = source }))
