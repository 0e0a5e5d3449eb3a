-- How often variables change in a change along the runs that keep orders, and what such runs come to.
use Rattle.std.specs.Prelude.{◌≡◌, ℕ, ◌<◌, ◌≤◌, Bool, false, List, [], length, IfSome, IsTrue}
use Rattle.hz_core.specs.declared.tri.Tri.{Tri}
use Rattle.hz_core.specs.Ternary.{Refines}
use Rattle.hz_net.specs.Network.{Driver}
use Rattle.hz_gmw.specs.Runs.{IsRun}
use Rattle.hz_word.specs.Covers.{Covers}
use Rattle.hz_word.specs.Word.{change_count}
use Rattle.hz_free.specs.VariableWords.{variable_history}
use Rattle.hz_free.specs.Inductive.{told_at}
use Rattle.hz_witness.specs.Witness.{AreCounts}
use Rattle.hz_orders.specs.declared.order.Order.{Order}
use Rattle.hz_orders.specs.Orders.{Keeps}
use Rattle.hz_orders.specs.Outcomes.{IsKeptOutcome}
use Rattle.hz_orders.specs.Kept.{IsKeptRun}
use Rattle.hz_edges.specs.Edges.{EdgesOf, range_at}

-- along every run from a start that keeps orders, variable i changes at most so often
abbrev pub ChangesAtMostUnder : List Order → List Driver → (input start : List Bool) →
    (i most : ℕ) → Type 0
ChangesAtMostUnder orders net input start i most =
    (steps : List (List ℕ)) → IsRun net input start steps → Keeps orders start steps →
    change_count (variable_history start steps i) ≤ most

-- What is found so of a change from a start to an input is right under orders. Nothing is said of runs that break one.
-- Along every run that keeps the orders the word that a variable is told covers its history, and a bound of its changes holds;
-- each outcome of such runs has the ends where they are 0 or 1;
-- if a run is shown, it keeps the orders and comes to rest; the counts are those of the run that is shown, and 0 if none is.
pub record AreEdgesUnder (orders : List Order) (net : List Driver) (input start : List Bool)
    (ends : List Tri) (kept : Bool) (edges : EdgesOf) : Type 0 where
  pub covers : (i : ℕ) → i < length net → (steps : List (List ℕ)) → IsRun net input start steps →
      Keeps orders start steps → Covers (told_at edges.told i) (variable_history start steps i)
  pub bound : (i : ℕ) → i < length net →
      IfSome (range_at edges i).most (ChangesAtMostUnder orders net input start i)
  pub long : length ends ≡ length net
  pub outcomes : (state : List Bool) → IsKeptOutcome orders net input start state → Refines state ends
  pub shown : IsTrue kept → IsKeptRun orders net input start edges.steps
  pub not_shown : kept ≡ false → edges.steps ≡ []
  pub counted : AreCounts net edges.steps edges.counts
