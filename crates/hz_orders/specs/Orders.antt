-- Orders of the wires of a gate, the runs that keep them, and the orders that a change uses.
use Rattle.std.specs.Prelude.{◌≡◌, ◌≢◌, ℕ, ◌≤◌, Bool, not, List, take, All}
use Rattle.hz_net.specs.Network.{Driver, bit_at}
use Rattle.hz_net.specs.Reads.{IsWireInto}
use Rattle.hz_gmw.specs.Cycles.{IsOutcome}
use Rattle.hz_word.specs.Word.{change_count}
use Rattle.hz_free.specs.VariableWords.{variable_history}
use Rattle.hz_orders.specs.declared.order.Order.{Order}

-- an order of a network: of two wires into one gate
pub record IsOrderOf (net : List Driver) (order : Order) : Type 0 where
  pub gate : ℕ
  pub first : IsWireInto net gate order.first
  pub second : IsWireInto net gate order.second
  pub two : order.first ≢ order.second
  pub some : 1 ≤ order.nth

-- A run keeps an order: whenever the second wire has changed n times, the first has changed. A step may change both.
abbrev pub KeepsOrder : List Bool → List (List ℕ) → Order → Type 0
KeepsOrder start steps order =
    (k : ℕ) → order.nth ≤ change_count (variable_history start (take k steps) order.second) →
    1 ≤ change_count (variable_history start (take k steps) order.first)

-- a run keeps all orders of a list
abbrev pub Keeps : List Order → List Bool → List (List ℕ) → Type 0
Keeps orders start steps = All (λ order. KeepsOrder start steps order) orders

-- a variable must move in a change: in each outcome it does not have its value at the start
abbrev pub MustMove : List Driver → List Bool → List Bool → ℕ → Type 0
MustMove net input start i =
    (state : List Bool) → IsOutcome net input start state → bit_at state i ≡ not (bit_at start i)

-- A change uses an order if the order's first wire must move. Else the order is idle: while the first wire stays, the order would
-- hold the second one for ever.
abbrev pub IsUsed : List Driver → List Bool → List Bool → Order → Type 0
IsUsed net input start order = MustMove net input start order.first
