-- What is told under orders, and a run that keeps them, are right edges under the orders.
use Rattle.std.proofs.Common.{◌≡◌, ◌∙◌, refl, sym, ap, subst, ℕ, ◌<◌, Bool, true, false, List, [], ◌∷◌, ◌++◌, length, IfSome, IsTrue}
use Rattle.hz_edge_reports.proofs.Words.{Tri, Refines, Driver, Word, Order, EdgesOf, AreEdgesUnder, AreRightUnder, ChangeOf}
use Rattle.hz_gmw.specs.Runs.{IsRun}
use Rattle.hz_gmw.proofs.CoverB.{length-end_of}
use Rattle.hz_word.specs.declared.count.Count.{Count}
use Rattle.hz_word.specs.declared.count.Count.TheVariants.{Exact, Many}
use Rattle.hz_word.specs.Covers.{Bounds, Covers}
use Rattle.hz_free.specs.VariableWords.{variable_history}
use Rattle.hz_free.specs.Inductive.{told_at}
use Rattle.hz_witness.specs.Witness.{AreCounts}
use Rattle.hz_bounds.specs.Ranges.{bound_of}
use Rattle.hz_orders.specs.Orders.{Keeps}
use Rattle.hz_orders.specs.Outcomes.{IsKeptOutcome}
use Rattle.hz_orders.specs.Kept.{IsKeptRun}
use Rattle.hz_edge_reports.specs.OrderedEdges.{ChangesAtMostUnder}

-- words cover all runs that keep orders
abbrev pub AllCover : List Order → List Driver → List Bool → List Bool → List Word → Type 0
AllCover orders net input start told =
    (i : ℕ) → i < length net → (steps : List (List ℕ)) → IsRun net input start steps → Keeps orders start steps → Covers (told_at told i) (variable_history start steps i)

-- so a number that is exact bounds their changes
bounded : (orders : List Order) (net : List Driver) (input start : List Bool) (told : List Word) → AllCover orders net input start told →
    (i : ℕ) → i < length net → (count : Count) → (told_at told i).changes ≡ count → IfSome (bound_of count) (ChangesAtMostUnder orders net input start i)
bounded orders net input start told covers i few (Exact most) same =
    λ steps run keeps. subst (λ (count : Count). Bounds count (variable_history start steps i)) same (covers i few steps run keeps).bounded
bounded orders net input start told covers i few Many same = tt

-- a kept outcome is as long as the start
pub long-outcome : (orders : List Order) (net : List Driver) (input start state : List Bool) → IsKeptOutcome orders net input start state → length state ≡ length start
long-outcome orders net input start state outcome = sym (ap (length {A = Bool}) outcome.ends) ∙ length-end_of start (outcome.lead ++ (outcome.round ++ outcome.onward))

pub edges-under : (orders : List Order) (net : List Driver) (input start : List Bool) (ends : List Tri) (kept : Bool) (edges : EdgesOf) → AllCover orders net input start edges.told → length ends ≡ length net →
    ((state : List Bool) → IsKeptOutcome orders net input start state → Refines state ends) → (IsTrue kept → IsKeptRun orders net input start edges.steps) → (kept ≡ false → edges.steps ≡ []) → AreCounts net edges.steps edges.counts →
    AreEdgesUnder orders net input start ends kept edges
edges-under orders net input start ends kept edges covers long outcomes shown not_shown counted = record {
  covers = covers;
  bound = λ i few. bounded orders net input start edges.told covers i few (told_at edges.told i).changes refl;
  long = long;
  outcomes = outcomes;
  shown = shown;
  not_shown = not_shown;
  counted = counted;
}

-- of a change that uses an order, that is all
pub right-under : (orders : List Order) (net : List Driver) (cap : ℕ) (found : ChangeOf) → (orders ≡ [] → ⊥) → AreEdgesUnder orders net found.input found.start found.ends found.kept found.edges → AreRightUnder orders net cap found
right-under [] net most found some right = absurd (some refl)
right-under (order ∷ orders) net most found some right = right

-- what is shown is a run
pub run-shown : (orders : List Order) (net : List Driver) (cap : ℕ) (found : ChangeOf) → AreRightUnder orders net cap found → IsRun net found.input found.start found.edges.steps
run-shown [] net most found right = right.1.witness.run
run-shown (order ∷ orders) net most found right = by_kept found.kept right.shown right.not_shown
  where
    by_kept : (kept : Bool) → (IsTrue kept → IsKeptRun (order ∷ orders) net found.input found.start found.edges.steps) → (kept ≡ false → found.edges.steps ≡ []) → IsRun net found.input found.start found.edges.steps
    by_kept true shown none = (shown refl).run
    by_kept false shown none = subst (IsRun net found.input found.start) (sym (none refl)) tt
