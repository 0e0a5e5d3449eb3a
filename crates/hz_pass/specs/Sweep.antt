-- How one sweep over the nodes gives each its value.
use Rattle.std.specs.Prelude.{◌≡◌, ◌≢◌, ℕ, ◌<◌, Bool, Option, Some, List, length, slice_get}
use Rattle.hz_core.specs.declared.tri.Tri.{Tri}
use Rattle.hz_core.specs.declared.tri.Tri.TheVariants.{Unknown}
use Rattle.hz_core.specs.Ternary.{tri_of}
use Rattle.hz_core.specs.Netlist.{Netlist}
use Rattle.hz_net.specs.Network.{network_of, Source, driver_at, value_at, IsState}
use Rattle.hz_net.specs.Starts.{IsForced}

-- The nodes below a number are known, and the wires below another have their sources' values: what is known is forced, and what is listed
-- has its value.
pub record IsSweptTo (netlist : Netlist) (listed : List (Option Bool)) (node end : ℕ)
    (values : List Tri) : Type 0 where
  pub long : IsState netlist values
  pub agrees : (other : ℕ) (bit : Bool) → slice_get listed other ≡ Some (Some bit) →
      value_at values other ≡ tri_of bit
  pub sound : (other : ℕ) (bit : Bool) → other < length netlist.names →
      value_at values other ≡ tri_of bit → IsForced netlist listed other bit
  pub known : (other : ℕ) → other < node → value_at values other ≢ Unknown
  pub delivered : (wire source : ℕ) → driver_at (network_of netlist) wire ≡ Source source →
      wire < end → (value_at values wire ≡ value_at values source) × (value_at values source ≢ Unknown)
