-- How a variable of a circuit is driven, by what it is, and what is known of what drives it.
use Rattle.std.specs.Prelude.{◌≡◌, ℕ, ◌+◌, ◌<◌, ◌≤◌, length, IsTrue}
use Rattle.hz_core.specs.declared.kind.Kind.{Kind}
use Rattle.hz_core.specs.Gate.{takes}
use Rattle.hz_core.specs.Netlist.{Netlist, IsGateNumber, gate_at}
use Rattle.hz_net.specs.Network.{External, Function, Source, network_of, driver_at}
use Rattle.hz_net.specs.Variables.{first_wire}
use Rattle.hz_net.specs.Reads.{IsWireInto}
use Rattle.hz_net.specs.declared.variable.VarKind.{VarKind}
use Rattle.hz_net.specs.declared.variable.VarKind.TheVariants.{Input, Gate as GateVariable, Wire as WireVariable}

-- an input is driven by the external input with its number
pub record IsInputAt (netlist : Netlist) (var number : ℕ) : Type 0 where
  pub driven : driver_at (network_of netlist) var ≡ External number
  pub is_input : number < netlist.inputs
  pub is_node : var < length netlist.names

-- a gate is driven by its function of its own wires, which are there, and as many as the function takes
pub record IsGateAt (netlist : Netlist) (var : ℕ) (kind : Kind) : Type 0 where
  pub driven :
      driver_at (network_of netlist) var
      ≡ Function kind (first_wire netlist var) (length (gate_at netlist var).sources)
  pub is_gate : IsGateNumber netlist var
  pub inside : first_wire netlist var + length (gate_at netlist var).sources
      ≤ length (network_of netlist)
  pub takes_pins : IsTrue (takes kind (length (gate_at netlist var).sources))

-- a wire is driven by its source, a node, and goes into its gate
pub record IsWireAt (netlist : Netlist) (var gate source : ℕ) : Type 0 where
  pub driven : driver_at (network_of netlist) var ≡ Source source
  pub from_node : source < length netlist.names
  pub into : IsWireInto (network_of netlist) gate var
  pub into_node : gate < length netlist.names
  pub above : length netlist.names ≤ var

-- how a variable is driven, by what it is
abbrev pub IsDrivenAs : Netlist → ℕ → VarKind → Type 0
IsDrivenAs netlist var (Input number) = IsInputAt netlist var number
IsDrivenAs netlist var (GateVariable kind) = IsGateAt netlist var kind
IsDrivenAs netlist var (WireVariable gate pin source) = IsWireAt netlist var gate source
