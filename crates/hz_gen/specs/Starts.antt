-- The start of a generated script.
use Rattle.std.specs.Prelude.{ℕ, Bool, Option, List}
use Rattle.hz_core.specs.Netlist.{Netlist, IsCircuit}
use Rattle.hz_net.specs.Starts.{IsLeastOpen, IsLeastUnstable}
use Rattle.hz_options.specs.Numbers.{IsDemoNumber}
use Rattle.hz_gen.specs.Demo.{demo_netlist, demo_script}

-- listed values leave no node open, and no gate unstable
pub record IsCompletable (netlist : Netlist) (listed : List (Option Bool)) : Type 0 where
  pub closed : (node : ℕ) → ¬ IsLeastOpen netlist listed node
  pub stable : (gate : ℕ) → ¬ IsLeastUnstable netlist listed gate

-- the script of every number has a start that is accepted
abbrev pub DemoStarts : Type 0
DemoStarts =
    (n : ℕ) → IsDemoNumber n → IsCircuit (demo_netlist n) →
    IsCompletable (demo_netlist n) (demo_script n).start
