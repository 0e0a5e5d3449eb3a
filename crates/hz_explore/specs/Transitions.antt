-- The transitions of a state: what each burst that applies to it comes to.
use Rattle.std.specs.Prelude.{◌≡◌, ℕ, Bool, Option, Some, None, List, length, map, filter, All}
use Rattle.std.specs.List.{filter_map, range_with_len}
use Rattle.hz_core.specs.Netlist.{Netlist}
use Rattle.hz_net.specs.Network.{bit_at, value_at}
use Rattle.hz_bounds.specs.declared.range.EdgeClass.{EdgeClass}
use Rattle.hz_bounds.specs.Ranges.{edge_class_of}
use Rattle.hz_edges.specs.Edges.{range_at}
use Rattle.hz_timing.specs.declared.script.Assumption.{Assumption}
use Rattle.hz_edge_reports.specs.EdgeChanges.{ChangeOf, IsChangeFrom, IsNextStart, IsRightChange, IsStopper}
use Rattle.hz_explore.specs.Bursts.{applies}
use Rattle.hz_explore.specs.Reached.{nodes_of}

-- what a burst comes to: it settles in a state, or a variable is unsettled
pub data Outcome : Type 0 where
  Settled : (next : List Bool) → Outcome
  Unsettled : (var : ℕ) → Outcome

-- A transition: where it starts, its burst, what is found of its change, and what it comes to.
pub record Transition : Type 0 where
  pub start : List Bool
  pub burst : List (ℕ × Bool)
  pub found : ChangeOf
  pub outcome : Outcome

-- the burst settles where the next change starts; or the first variable that is X, or unstable, is told
abbrev pub IsRightOutcome : Netlist → ChangeOf → Outcome → Type 0
IsRightOutcome netlist found (Settled next) = IsNextStart netlist found.ends next
IsRightOutcome netlist found (Unsettled var) = IsStopper netlist found.input found.ends var

-- It is right: what is found is found of this change, and right under the assumptions, and so is what it comes to.
pub record IsRightTransition (netlist : Netlist) (cap : ℕ) (assumptions : List Assumption)
    (transition : Transition) : Type 0 where
  pub from : IsChangeFrom netlist transition.start transition.burst transition.found
  pub right : IsRightChange netlist cap assumptions transition.found
  pub outcome : IsRightOutcome netlist transition.found transition.outcome

-- The transitions of a state: one for each burst that applies to it, in the order of the bursts, and each is right.
pub record AreTransitions (netlist : Netlist) (cap : ℕ) (assumptions : List Assumption)
    (bursts : List (List (ℕ × Bool))) (state : List Bool) (transitions : List Transition)
    : Type 0 where
  pub each_once : map (λ transition. transition.burst) transitions ≡ filter (applies state) bursts
  pub start : All (λ transition. transition.start ≡ state) transitions
  pub right : All (IsRightTransition netlist cap assumptions) transitions

-- the values of the nodes where a transition ends, if it settles
abbrev pub transition_end : Netlist → Outcome → Option (List Bool)
transition_end netlist (Settled next) = Some (nodes_of netlist next)
transition_end netlist (Unsettled var) = None

-- those of transitions, in their order
abbrev pub ends_of : Netlist → List Transition → List (List Bool)
ends_of netlist transitions =
    filter_map (λ transition. transition_end netlist transition.outcome) transitions

-- the class of variable i in a change
abbrev pub class_at : ChangeOf → ℕ → EdgeClass
class_at found i =
    edge_class_of (bit_at found.start i) (value_at found.ends i) (range_at found.edges i)

-- the classes of all nodes
abbrev pub node_classes : Netlist → ChangeOf → List EdgeClass
node_classes netlist found = map (class_at found) (range_with_len 0 (length netlist.names))
