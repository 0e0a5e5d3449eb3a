-- What is refused as a start.
use Rattle.std.specs.Prelude.{◌≡◌, ◌≢◌, ℕ, ◌<◌, ◌≤◌, Bool, false, Option, List, length, unwrap_or, take}
use Rattle.hz_core.specs.declared.tri.Tri.{Tri}
use Rattle.hz_core.specs.declared.tri.Tri.TheVariants.{Unknown}
use Rattle.hz_core.specs.Ternary.{known_bit}
use Rattle.hz_core.specs.Netlist.{Netlist, IsGateNumber, primary_inputs}
use Rattle.hz_net.specs.Network.{network_of, value_at, bit_at, excitation, IsUnstable}
use Rattle.hz_net.specs.Starts.{IsLeastOpen, IsLeastUnstable}
use Rattle.hz_pass.specs.declared.completed_start.StartFault.{StartFault}
use Rattle.hz_pass.specs.declared.completed_start.StartFault.TheVariants.{Open, Unstable, Memory}

-- what a refusal says of the listed values: out of memory says nothing
abbrev pub IsStartFault : Netlist → List (Option Bool) → StartFault → Type 0
IsStartFault netlist listed (Open gate) = IsLeastOpen netlist listed gate
IsStartFault netlist listed (Unstable gate) = IsLeastUnstable netlist listed gate
IsStartFault netlist listed Memory = Unit {0}

-- the bit of a value, 0 if it is X
abbrev pub bit_or_zero : Tri → Bool
bit_or_zero value = unwrap_or (known_bit value) false

-- the least node that is X and no primary input
pub record IsLeastUnknown (netlist : Netlist) (values : List Tri) (node : ℕ) : Type 0 where
  pub above : primary_inputs netlist ≤ node
  pub is_node : node < length netlist.names
  pub is_unknown : value_at values node ≡ Unknown
  pub least : (other : ℕ) → primary_inputs netlist ≤ other → other < node →
      value_at values other ≢ Unknown

-- the least gate that is unstable in a state, under its own inputs
pub record IsLeastUnstableIn (netlist : Netlist) (state : List Bool) (gate : ℕ) : Type 0 where
  pub is_gate : IsGateNumber netlist gate
  pub is_unstable : IsUnstable (network_of netlist) (take netlist.inputs state) state gate
  pub least : (other : ℕ) → netlist.inputs ≤ other → other < gate →
      bit_at state other ≡ excitation (network_of netlist) (take netlist.inputs state) state other
