-- Runs that keep orders and come to rest.
use Rattle.std.specs.Prelude.{◌≡◌, ℕ, ◌<◌, Bool, List, length}
use Rattle.hz_net.specs.Network.{Driver, bit_at, excitation}
use Rattle.hz_gmw.specs.Runs.{IsRun, end_of}
use Rattle.hz_orders.specs.declared.order.Order.{Order}
use Rattle.hz_orders.specs.Orders.{Keeps}

-- a run that comes to rest: in its last state no variable is unstable
pub record IsRestingRun (net : List Driver) (input start : List Bool) (steps : List (List ℕ))
    : Type 0 where
  pub run : IsRun net input start steps
  pub stable : (i : ℕ) → i < length net →
      bit_at (end_of start steps) i ≡ excitation net input (end_of start steps) i

-- A run that keeps orders and comes to rest: in its last state no variable is unstable.
pub record IsKeptRun (orders : List Order) (net : List Driver) (input start : List Bool)
    (steps : List (List ℕ)) : Type 0 where
  pub run : IsRun net input start steps
  pub keeps : Keeps orders start steps
  pub stable : (i : ℕ) → i < length net →
      bit_at (end_of start steps) i ≡ excitation net input (end_of start steps) i
