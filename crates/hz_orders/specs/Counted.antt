-- Orders that are kept, by how often variables have changed.
use Rattle.std.specs.Prelude.{ℕ, ◌<◌, ◌≤◌, Bool, List, take, slice_index_or, IsTrue}
use Rattle.hz_net.specs.Network.{bit_at}
use Rattle.hz_reach.specs.Spread.{changes_in}
use Rattle.hz_orders.specs.declared.order.Order.{Order}

-- an order is kept where variables have changed so often: if the second wire has changed n times, the first has changed
abbrev pub KeepsByCounts : List ℕ → Order → Type 0
KeepsByCounts counts order =
    order.nth ≤ slice_index_or counts order.second 0 → 1 ≤ slice_index_or counts order.first 0

-- an order is kept after the first steps, and after each number of them that is less
abbrev pub KeepsUpTo : ℕ → List (List ℕ) → Order → Type 0
KeepsUpTo number steps order =
    (k : ℕ) → k ≤ number → order.nth ≤ changes_in (take k steps) order.second →
    1 ≤ changes_in (take k steps) order.first

-- the wires of an order are below a number, and the second is marked
pub record IsNoted (variables : ℕ) (marks : List Bool) (order : Order) : Type 0 where
  pub first : order.first < variables
  pub second : order.second < variables
  pub marked : IsTrue (bit_at marks order.second)
