-- By what orders are found. Words about the inside of hz_edge_reports.
use Rattle.std.specs.Prelude.{◌≡◌, ℕ, ◌≤◌, List, [], ◌∷◌, ◌++◌}
use Rattle.hz_core.specs.declared.tri.Tri.{Tri}
use Rattle.hz_core.specs.Netlist.{IsCircuit, IsWhole}
use Rattle.hz_net.specs.Network.{network_of, IsInput, IsState}
use Rattle.hz_net.specs.Passes.{algorithm_a, algorithm_b, IsResult}
use Rattle.hz_net.specs.Starts.{IsStableStart}
use Rattle.hz_word.specs.Capped.{greatest_cap}
use Rattle.hz_free.specs.Inductive.{IsInductive}
use Rattle.hz_orders.specs.declared.order.Order.{Order}
use Rattle.hz_timing.specs.declared.script.Assumption.{Assumption}
use Rattle.hz_edge_reports.specs.declared.using.Known.{Known}
use Rattle.hz_edge_reports.specs.UsedOrders.{AreFound}

-- what is known of a change is so
pub record IsKnown (known : Known) : Type 0 where
  pub circuit : IsCircuit known.net.now
  pub whole : IsWhole known.net.now
  pub start : IsStableStart known.net.now known.start.now
  pub input : IsInput known.net.now known.input.now
  pub cap_low : 1 ≤ known.cap
  pub cap_high : known.cap ≤ greatest_cap
  pub a : List Tri
  pub of_a : IsResult (algorithm_a (network_of known.net.now) known.input.now known.start.now) a
  pub of_b : IsResult (algorithm_b (network_of known.net.now) known.input.now a) known.b.now
  pub b_long : IsState known.net.now known.b.now
  pub told :
      IsInductive (network_of known.net.now) known.input.now known.start.now known.cap
      known.told.now

-- An assumption adds orders to those that are found: the orders that this assumption alone comes to, of which so many are idle.
pub record AddsFound (known : Known) (given : Assumption) (old new : List Order) (idle : ℕ)
    : Type 0 where
  pub own : List Order
  pub grown : new ≡ old ++ own
  pub are_found :
      AreFound (network_of known.net.now) known.input.now known.start.now (given ∷ []) own idle
