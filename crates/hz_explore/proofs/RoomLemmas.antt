-- A room before and after a change.
use Rattle.std.proofs.Common.{◌≡◌, ◌∙◌, ℕ, ◌<◌, ◌≤◌, Bool, List, [], ◌∷◌, length, Option, Some, None, IfSome, sym, ap, subst, is_some, arith}
use Rattle.hz_explore.proofs.Words.{Netlist, IsStableStart, state_number, ChangeOf, Classes, Totals, ExploreRoom, most_states, nodes_of, NotSettled, count_if, found_with, counted}
use Rattle.hz_states.proofs.StateLaws.{number-inside}
use Rattle.hz_edge_reports.specs.declared.finding.Making.{Making}
use Rattle.hz_edge_reports.specs.Room.{CanBeMade}
use Rattle.hz_edge_reports.proofs.Leading.{stopper-inside}
use Rattle.hz_explore.specs.declared.room.End.{End}
use Rattle.hz_explore.specs.declared.room.End.TheVariants as end
use Rattle.hz_explore.specs.declared.room.Made.{Made}
use Rattle.hz_explore.specs.Inside.{IsMade, IsNoted, IsTellable}
use Rattle.hz_explore.proofs.FoundLemmas.{few-by}

-- where a change ends is noted from another room with the same states and totals
pub noted-from : (netlist : Netlist) (found : ChangeOf) (is_clean other : Bool) (was there now : ExploreRoom) (e : End) → is_clean ≡ other → there.states ≡ was.states → there.totals ≡ was.totals → IsNoted netlist found is_clean there now e → IsNoted netlist found other was now e
noted-from netlist found is_clean other was there now (end.Settled place) clean states totals noted = (
  noted.0,
  noted.1,
  noted.2 ∙ ap (λ (list : List (List Bool)). found_with list (nodes_of netlist noted.0)) states,
  noted.3,
  noted.4 ∙ (ap (λ (t : Totals). counted t (count_if is_clean) (is_some place)) totals ∙ ap (λ (is : Bool). counted was.totals (count_if is) (is_some place)) clean),
)
noted-from netlist found is_clean other was there now (end.Unsettled var) clean states totals noted =
    (noted.0, noted.1 ∙ states, λ is_found. noted.2 is_found ∙ ap (λ (t : Totals). counted t NotSettled is_found) totals)

few-number : (states : List (List Bool)) (nodes : List Bool) (place : Option ℕ) → length states ≤ most_states → place ≡ state_number states nodes → IfSome place (λ number. number < 4294967295)
few-number states nodes None few is = tt
few-number states nodes (Some number) few is =
    let inside : number < length states = number-inside states nodes number (sym is) in
    omega (arith, inside, few)

-- so it can be written
tellable-end : (making : Making) (state : List Bool) (burst : List (ℕ × Bool)) (was now : ExploreRoom) (classes : Classes) → CanBeMade making → IsStableStart making.net.now state → length was.states ≤ most_states →
    (e : End) → IsMade making.net.now making.cap making.assumptions.now state burst was now (record { classes = classes; end = e }) → IsTellable making.net.now e
tellable-end making state burst was now classes can stable few (end.Settled place) made =
    let nodes = nodes_of making.net.now made.noted.0 in
    let room : length now.states ≤ most_states = subst (λ (states : List (List Bool)). length states ≤ most_states) (sym made.noted.2) (few-by was.states (nodes ∷ []) few) in
    few-number now.states nodes place room made.noted.3
tellable-end making state burst was now classes can stable few (end.Unsettled var) made =
    stopper-inside making.net.now making.cap making.assumptions.now state burst made.found can.circuit can.assumptions stable made.from made.right var made.noted.0

pub tellable : (making : Making) (state : List Bool) (burst : List (ℕ × Bool)) (was now : ExploreRoom) → CanBeMade making → IsStableStart making.net.now state → length was.states ≤ most_states → (made : Made) → IsMade making.net.now making.cap making.assumptions.now state burst was now made → IsTellable making.net.now made.end
tellable making state burst was now can stable few made is = tellable-end making state burst was now made.classes can stable few made.end is
