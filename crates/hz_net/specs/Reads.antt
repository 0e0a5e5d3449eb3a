-- What reads what: the variables on which the excitation of a variable depends, and those that depend on it.
use Rattle.std.specs.Prelude.{◌≡◌, ◌≢◌, ℕ, ◌+◌, ◌<◌, ◌≤◌, Option, Some, None, List, [], ◌∷◌, length, Contains, slice_get}
use Rattle.hz_core.specs.declared.kind.Kind.{Kind}
use Rattle.hz_core.specs.Netlist.{Netlist}
use Rattle.hz_net.specs.Network.{Driver, External, Function, Source, driver_at}
use Rattle.hz_net.specs.Variables.{variable_kinds, fan_out_of}
use Rattle.hz_net.specs.declared.variable.VarKind.{VarKind}
use Rattle.hz_net.specs.declared.variable.VarKind.TheVariants.{Input, Gate as GateVariable, Wire as WireVariable}

-- a driver reads a variable: a gate function its own wires, a wire its source
abbrev pub Reads : Driver → ℕ → Type 0
Reads (External place) i = ⊥
Reads (Function kind first pins) i = (first ≤ i) × (i < first + pins)
Reads (Source node) i = node ≡ i

-- a list has the readers of variable i: the variables whose driver reads it, and no others
pub record AreReaders (net : List Driver) (i : ℕ) (readers : List ℕ) : Type 0 where
  pub each : (reader : ℕ) → Contains readers reader → Reads (driver_at net reader) i
  pub every : (reader : ℕ) → Reads (driver_at net reader) i → Contains readers reader

-- the readers of a variable by what it is: the wires from a node, ascending, and the gate of a wire
abbrev pub readers_by : Netlist → ℕ → Option VarKind → List ℕ
readers_by netlist i None = []
readers_by netlist i (Some (Input number)) = fan_out_of netlist i
readers_by netlist i (Some (GateVariable kind)) = fan_out_of netlist i
readers_by netlist i (Some (WireVariable gate pin source)) = gate ∷ []

-- the readers of variable i of a circuit's network
abbrev pub readers_of : Netlist → ℕ → List ℕ
readers_of netlist i = readers_by netlist i (slice_get (variable_kinds netlist) i)

-- a wire goes into a gate: it is one of the variables of which the gate's function is taken
pub record IsWireInto (net : List Driver) (gate wire : ℕ) : Type 0 where
  pub kind : Kind
  pub first : ℕ
  pub pins : ℕ
  pub driven : driver_at net gate ≡ Function kind first pins
  pub above : first ≤ wire
  pub below : wire < first + pins

-- a variable is no wire: it is an input or a gate
abbrev pub IsNode : List Driver → ℕ → Type 0
IsNode net i = (source : ℕ) → driver_at net i ≢ Source source

-- A network is wired: wires come from nodes and go into gates, the wires of gates are wires, and none goes into two gates.
pub record IsWired (net : List Driver) : Type 0 where
  pub node : (wire source : ℕ) → driver_at net wire ≡ Source source → IsNode net source
  pub node_inside : (wire source : ℕ) → driver_at net wire ≡ Source source → source < length net
  pub gate : (wire source : ℕ) → driver_at net wire ≡ Source source →
      (gate : ℕ) × IsWireInto net gate wire
  pub source : (gate wire : ℕ) → IsWireInto net gate wire →
      (source : ℕ) × (driver_at net wire ≡ Source source)
  pub own : (gate other wire : ℕ) → IsWireInto net gate wire → IsWireInto net other wire →
      gate ≡ other
