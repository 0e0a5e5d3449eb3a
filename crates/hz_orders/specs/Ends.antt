-- Ternary values in the making, which all states that runs that keep orders come to refine.
use Rattle.std.specs.Prelude.{◌≡◌, ℕ, Bool, List, ◌++◌, length, take}
use Rattle.hz_core.specs.declared.tri.Tri.{Tri}
use Rattle.hz_core.specs.Ternary.{Refines}
use Rattle.hz_core.specs.Netlist.{IsCircuit, IsWhole}
use Rattle.hz_net.specs.Network.{network_of, IsInput}
use Rattle.hz_net.specs.Starts.{IsStableStart}
use Rattle.hz_gmw.specs.Runs.{end_of}
use Rattle.hz_orders.specs.Outcomes.{IsKeptOutcome}
use Rattle.hz_orders.specs.declared.telling.OrderedChange.{OrderedChange}

-- the ends of a change can be found
pub record CanEnd (change : OrderedChange) : Type 0 where
  pub circuit : IsCircuit change.net.now
  pub whole : IsWhole change.net.now
  pub start : IsStableStart change.net.now change.start.now
  pub input : IsInput change.net.now change.input.now

-- round the cycle of each outcome under the orders, and onward, each state refines the values
pub record CoversKept (change : OrderedChange) (values : List Tri) : Type 0 where
  pub long : length values ≡ length (network_of change.net.now)
  pub each : (state : List Bool)
      (outcome : IsKeptOutcome change.orders.now (network_of change.net.now) change.input.now change.start.now state)
      (k : ℕ) →
      Refines (end_of (end_of change.start.now outcome.lead) (take k (outcome.round ++ outcome.onward))) values
