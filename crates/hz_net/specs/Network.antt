-- The complete network of a circuit: one binary variable for each input, each gate and each wire, and what excites it.
use Rattle.std.specs.Prelude.{◌≡◌, ◌≢◌, ℕ, ◌+◌, ◌<◌, Bool, false, List, [], ◌∷◌, ◌++◌, length, map, slice_range}
use Rattle.std.specs.List.{slice_index_or, range_with_len}
use Rattle.hz_core.specs.declared.tri.Tri.{Tri}
use Rattle.hz_core.specs.declared.tri.Tri.TheVariants.{Zero}
use Rattle.hz_core.specs.declared.kind.Kind.{Kind}
use Rattle.hz_core.specs.Ternary.{tri_of}
use Rattle.hz_core.specs.Gate.{gate_value}
use Rattle.hz_core.specs.Extension.{extension}
use Rattle.hz_core.specs.Netlist.{Netlist, Gate}

-- A wire: the gate and the pin that it goes into, and the node that it comes from.
pub record Wire : Type 0 where
  pub gate : ℕ
  pub pin : ℕ
  pub source : ℕ

-- the wires into a gate from a pin on, one for each source
abbrev pub gate_wires : ℕ → ℕ → List ℕ → List Wire
gate_wires gate pin [] = []
gate_wires gate pin (source ∷ sources) =
    record { gate = gate; pin = pin; source = source } ∷ gate_wires gate (pin + 1) sources

-- the wires into gates, the first of which has a number, by gate and pin
abbrev pub wires_from : ℕ → List Gate → List Wire
wires_from number [] = []
wires_from number (gate ∷ gates) = gate_wires number 0 gate.sources ++ wires_from (number + 1) gates

-- the wires of a circuit, by gate and pin
unfoldable pub wires_of : Netlist → List Wire
wires_of netlist = wires_from netlist.inputs netlist.gates

-- What drives a variable: an input, its place of the external input; a gate, its gate function of its own wires, which
-- are neighbours from variable `first` on; a wire, the variable of its source.
pub data Driver : Type 0 where
  External : (place : ℕ) → Driver
  Function : (kind : Kind) (first pins : ℕ) → Driver
  Source : (node : ℕ) → Driver

-- the drivers of gates, the wires of the first of which begin at a variable
abbrev pub gate_drivers : ℕ → List Gate → List Driver
gate_drivers first [] = []
gate_drivers first (gate ∷ gates) =
    Function gate.kind first (length gate.sources)
    ∷ gate_drivers (first + length gate.sources) gates

-- the complete network: what drives each variable, inputs first, then gates, then wires
unfoldable pub network_of : Netlist → List Driver
network_of netlist =
    map External (range_with_len 0 netlist.inputs)
    ++ gate_drivers (length netlist.names) netlist.gates
    ++ map (λ wire. Source wire.source) (wires_of netlist)

-- a number is that of a variable of the complete network
abbrev pub IsVariable : Netlist → ℕ → Type 0
IsVariable netlist i = i < length (network_of netlist)

-- a list has one item for each variable: marks, ranks, rows
abbrev pub AreByVariable : {T : Type 0} → Netlist → List T → Type 0
AreByVariable netlist list = length list ≡ length (network_of netlist)

-- a state, also a ternary one: one value for each variable
abbrev pub IsState : {T : Type 0} → Netlist → List T → Type 0
IsState netlist state = length state ≡ length (network_of netlist)

-- an external input: one value for each input
abbrev pub IsInput : {T : Type 0} → Netlist → List T → Type 0
IsInput netlist input = length input ≡ netlist.inputs

-- what drives variable i
abbrev pub driver_at : List Driver → ℕ → Driver
driver_at net i = slice_index_or net i (External 0)

-- the value of variable i in a state
abbrev pub bit_at : List Bool → ℕ → Bool
bit_at state i = slice_index_or state i false

-- the value of variable i in a ternary state
abbrev pub value_at : List Tri → ℕ → Tri
value_at state i = slice_index_or state i Zero

-- what a driver asks for, under an external input, in a state
abbrev pub driver_value : List Bool → List Bool → Driver → Bool
driver_value input state (External place) = bit_at input place
driver_value input state (Function kind first pins) =
    gate_value kind (slice_range state first (first + pins))
driver_value input state (Source node) = bit_at state node

-- the same in a ternary state, by the ternary extension of the gate function
abbrev pub driver_value3 : List Bool → List Tri → Driver → Tri
driver_value3 input state (External place) = tri_of (bit_at input place)
driver_value3 input state (Function kind first pins) =
    extension kind (slice_range state first (first + pins))
driver_value3 input state (Source node) = value_at state node

-- the excitation of variable i
abbrev pub excitation : List Driver → List Bool → List Bool → ℕ → Bool
excitation net input state i = driver_value input state (driver_at net i)

-- the ternary excitation of variable i
abbrev pub excitation3 : List Driver → List Bool → List Tri → ℕ → Tri
excitation3 net input state i = driver_value3 input state (driver_at net i)

-- a variable is unstable if its value differs from its excitation
abbrev pub IsUnstable : List Driver → List Bool → List Bool → ℕ → Type 0
IsUnstable net input state i = bit_at state i ≢ excitation net input state i

-- a state is stable if each variable has the value of its excitation
abbrev pub IsStable : List Driver → List Bool → List Bool → Type 0
IsStable net input state = (i : ℕ) → i < length net → bit_at state i ≡ excitation net input state i
