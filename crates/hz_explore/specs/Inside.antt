-- What the code holds of an exploration that is not done. Words about the inside of hz_explore.
use Rattle.std.specs.Prelude.{◌≡◌, ℕ, ◌+◌, ◌<◌, ◌≤◌, Bool, false, List, ◌++◌, codes, length, All, IfSome, is_some}
use Rattle.hz_core.specs.Netlist.{Netlist}
use Rattle.hz_net.specs.Network.{IsState, IsVariable}
use Rattle.hz_timing.specs.declared.script.Assumption.{Assumption}
use Rattle.hz_edge_reports.specs.EdgeChanges.{ChangeOf, IsChangeFrom, IsNextStart, IsRightChange, IsStopper}
use Rattle.hz_edge_reports.specs.Room.{CanBeMade, IsChangeRoom}
use Rattle.hz_explore.specs.declared.bursts.Bursts.{Bursts}
use Rattle.hz_states.specs.States.{state_number}
use Rattle.hz_text.specs.VariableWord.{spaced_word}
use Rattle.hz_explore.specs.declared.counting.Classes.{Classes}
use Rattle.hz_explore.specs.declared.counting.Totals.{Totals}
use Rattle.hz_explore.specs.declared.exploring.Exploring.{Exploring}
use Rattle.hz_explore.specs.declared.room.ExploreRoom.{ExploreRoom}
use Rattle.hz_explore.specs.declared.room.End.{End}
use Rattle.hz_explore.specs.declared.room.End.TheVariants as end
use Rattle.hz_explore.specs.declared.room.Made.{Made}
use Rattle.hz_explore.specs.Bursts.{bursts_or, each_alone}
use Rattle.hz_explore.specs.Reached.{nodes_of}
use Rattle.hz_explore.specs.Transitions.{Transition, AreTransitions, ends_of, node_classes}
use Rattle.hz_explore.specs.Counts.{NotSettled, classes_of, count_if, is_clean_change, totals_of}
use Rattle.hz_explore.specs.Exploration.{Explored, all_nodes, all_transitions, found_by, found_with}
use Rattle.hz_explore.specs.ExploreText.{burst_text, counts_text, maybe_static_text, number_text}
use Rattle.hz_explore.specs.Progress.{Extends, counted}

-- there are never more bursts
abbrev pub most_bursts : ℕ
most_bursts = 400000

-- nor more transitions: those of the most states by the most bursts
abbrev pub most_changes : ℕ
most_changes = 26214400000

-- the bursts that are held: the changes of the script, or each of these inputs alone
abbrev pub bursts_in : Bursts → List (List (ℕ × Bool))
bursts_in bursts = bursts_or bursts.script.now.changes (each_alone bursts.alone.items)

-- how many transitions were counted
abbrev pub changes_in : Totals → ℕ
changes_in totals = totals.clean + (totals.hazards + totals.unsettled)

-- there is a place for each node and for each variable, and room for changes
pub record IsExploreRoom (netlist : Netlist) (room : ExploreRoom) : Type 0 where
  pub nodes : length room.nodes.items ≡ length netlist.names
  pub start : IsState netlist room.start.items
  pub change : IsChangeRoom netlist room.change

-- the totals are those of transitions, by all states in which the exploration will end
abbrev pub Counts : Netlist → List Transition → ExploreRoom → Type 0
Counts netlist transitions room =
    (all : List (List Bool)) → Extends room.states all →
    room.totals ≡ totals_of netlist all transitions

-- Where a change ends is noted: the state is added to those that were found, if there is room, and counted; or the variable that is
-- unsettled is held.
abbrev pub IsNoted : Netlist → ChangeOf → Bool → ExploreRoom → ExploreRoom → End → Type 0
IsNoted netlist found is_clean was now (end.Settled place) =
    (next : List Bool) × IsNextStart netlist found.ends next
    × (now.states ≡ found_with was.states (nodes_of netlist next))
    × (place ≡ state_number now.states (nodes_of netlist next))
    × (now.totals ≡ counted was.totals (count_if is_clean) (is_some place))
IsNoted netlist found is_clean was now (end.Unsettled var) =
    IsStopper netlist found.input found.ends var
    × (now.states ≡ was.states)
    × ((is_found : Bool) → now.totals ≡ counted was.totals NotSettled is_found)

-- what stands behind the number of a change's state: where it ends, its burst, and the classes of the nodes
abbrev pub end_text : Netlist → List Assumption → List (ℕ × Bool) → Classes → End → List ℕ
end_text netlist assumptions burst classes (end.Settled place) =
    codes " to " ++ number_text place ++ burst_text netlist burst ++ counts_text classes
    ++ maybe_static_text assumptions classes
end_text netlist assumptions burst classes (end.Unsettled var) =
    codes " unsettled" ++ burst_text netlist burst ++ spaced_word netlist var

-- this can be written: the number of a state, or a variable
abbrev pub IsTellable : Netlist → End → Type 0
IsTellable netlist (end.Settled place) = IfSome place (λ number. number < 4294967295)
IsTellable netlist (end.Unsettled var) = IsVariable netlist var

-- a change was made by a burst from a state: what is found of it is right, and held, and where it ends is noted
pub record IsMade (netlist : Netlist) (cap : ℕ) (assumptions : List Assumption)
    (state : List Bool) (burst : List (ℕ × Bool)) (was now : ExploreRoom) (made : Made) : Type 0
  where
    pub found : ChangeOf
    pub from : IsChangeFrom netlist state burst found
    pub right : IsRightChange netlist cap assumptions found
    pub classes : made.classes ≡ classes_of (node_classes netlist found)
    pub noted : IsNoted netlist found (is_clean_change netlist found) was now made.end
    pub used : now.change.used.items ≡ found.used
    pub kept : now.change.kept ≡ found.kept

-- Transitions from a state were made by bursts. Unless the output failed, their ends were added to the states, and they were counted.
pub record Makes (netlist : Netlist) (cap : ℕ) (assumptions : List Assumption)
    (bursts : List (List (ℕ × Bool))) (state : List Bool) (made : List Transition)
    (was now : ExploreRoom) (failed : Bool) : Type 0 where
  pub transitions : AreTransitions netlist cap assumptions bursts state made
  pub found : failed ≡ false → now.states ≡ found_by was.states (ends_of netlist made)
  pub counts : failed ≡ false → (before : List Transition) → Counts netlist before was →
      Counts netlist (before ++ made) now

-- what the changes of an exploration have in common is right
pub record IsExploring (exploring : Exploring) : Type 0 where
  pub making : CanBeMade exploring.making
  pub inputs : All (All (λ pair. pair.0 < exploring.making.net.now.inputs))
      (bursts_in exploring.bursts.now)
  pub few : length (bursts_in exploring.bursts.now) ≤ most_bursts

-- a room has as many states as were explored, and the totals of their transitions
pub record IsCounted (netlist : Netlist) (explored : List Explored) (room : ExploreRoom) : Type 0
  where
    pub states : length room.states ≡ length explored
    pub totals : room.totals ≡ totals_of netlist (all_nodes explored) (all_transitions explored)
