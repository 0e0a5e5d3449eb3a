-- Ideal wires, and the orders that follow from them.
use Rattle.std.specs.Prelude.{◌≡◌, ℕ, ◌<◌, Bool, List, [], ◌∷◌, length, take, IsTrue}
use Rattle.std.specs.List.{slice_index_or}
use Rattle.hz_lists.specs.Listed.{is_listed}
use Rattle.hz_net.specs.Network.{Driver, Source, driver_at, IsUnstable}
use Rattle.hz_gmw.specs.Runs.{end_of}
use Rattle.hz_word.specs.declared.count.Count.TheVariants.{Exact}
use Rattle.hz_word.specs.declared.word.Word.{Word}
use Rattle.hz_word.specs.Capped.{IsAtMost}
use Rattle.hz_free.specs.Inductive.{told_at}
use Rattle.hz_orders.specs.declared.order.Order.{Order}
use Rattle.hz_orders.specs.Orders.{IsOrderOf}
use Rattle.hz_orders.specs.Inductive.{IsInductiveHolding}

-- A wire is ideal along a run if it never waits: each step from a state in which it is unstable changes it. So it is if it follows
-- its source before anything else happens.
abbrev pub IsIdeal : List Driver → List Bool → List Bool → List (List ℕ) → ℕ → Type 0
IsIdeal net input start steps wire =
    (k : ℕ) → k < length steps → IsUnstable net input (end_of start (take k steps)) wire →
    IsTrue (is_listed (slice_index_or steps k []) wire)

-- An order follows from its first wire being ideal: while the wire's source is held, the second wire changes less than n times, by
-- words that are inductive under other orders.
pub record FollowsFromIdeal (orders : List Order) (net : List Driver) (input start : List Bool)
    (cap : ℕ) (order : Order) : Type 0 where
  pub is_order : IsOrderOf net order
  pub source : ℕ
  pub driven : driver_at net order.first ≡ Source source
  pub told : List Word
  pub inductive : IsInductiveHolding (source ∷ []) orders net input start cap told
  pub changes : ℕ
  pub bound : IsAtMost (told_at told order.second).changes (Exact changes)
  pub less : changes < order.nth
