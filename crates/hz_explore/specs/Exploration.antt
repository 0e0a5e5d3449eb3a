-- All that bursts lead to from a start: states in the order in which they are found, each with its transitions.
use Rattle.std.specs.Prelude.{◌≡◌, ℕ, ◌<◌, Bool, true, List, [], ◌∷◌, length, map, All, Contains, count_by, fold, nat_le, if◌then◌else◌}
use Rattle.std.specs.List.{flat_map, list_all, IsDistinct}
use Rattle.hz_core.specs.Netlist.{Netlist}
use Rattle.hz_net.specs.Network.{Driver, network_of}
use Rattle.hz_net.specs.Starts.{IsStableStart}
use Rattle.hz_net.specs.Variables.{expansion_of}
use Rattle.hz_gmw.specs.Cycles.{IsOutcome}
use Rattle.hz_edges.specs.Edges.{ChangesAtMost}
use Rattle.hz_orders.specs.declared.order.Order.{Order}
use Rattle.hz_orders.specs.Outcomes.{IsKeptOutcome}
use Rattle.hz_states.specs.States.{has_state, same_state, with_state}
use Rattle.hz_timing.specs.declared.script.Assumption.{Assumption}
use Rattle.hz_edge_reports.specs.OrderedEdges.{ChangesAtMostUnder}
use Rattle.hz_explore.specs.Limits.{most_states}
use Rattle.hz_explore.specs.Bursts.{applies}
use Rattle.hz_explore.specs.Counts.{AreTold, transition_count, is_hazard, is_not_settled, is_shown}
use Rattle.hz_explore.specs.Reached.{input_after, nodes_of, IsReachedState, Settles, SettlesUnder}
use Rattle.hz_explore.specs.Transitions.{Transition, Settled, AreTransitions, ends_of}

-- A state by the values of its nodes, and its transitions.
pub record Explored : Type 0 where
  pub nodes : List Bool
  pub transitions : List Transition

-- the state: each wire has the value of its source
abbrev pub state_of : Netlist → Explored → List Bool
state_of netlist explored = expansion_of netlist explored.nodes

-- the nodes of all states
abbrev pub all_nodes : List Explored → List (List Bool)
all_nodes explored = map (λ one. one.nodes) explored

-- the transitions of all states, one state after the other
abbrev pub all_transitions : List Explored → List Transition
all_transitions explored = flat_map (λ one. one.transitions) explored

-- the states that are found once a further one is seen: it is a new one if it is not there, and there is room for it
abbrev pub found_with : List (List Bool) → List Bool → List (List Bool)
found_with found nodes =
    if nat_le most_states (length found) then found else with_state found nodes

-- those that are found once further ones are seen, one after the other
abbrev pub found_by : List (List Bool) → List (List Bool) → List (List Bool)
found_by found seen = fold found_with found seen

-- no state was left out for want of room: each transition that settles ends in one of the states
abbrev pub is_whole : Netlist → List Explored → Bool
is_whole netlist explored =
    list_all (has_state (all_nodes explored)) (ends_of netlist (all_transitions explored))

-- how many transitions have a hazard, and how many leave a variable unsettled
abbrev pub hazards_in : Netlist → List Explored → ℕ
hazards_in netlist explored =
    count_by (λ one. is_hazard (transition_count netlist one)) (all_transitions explored)

abbrev pub unsettled_in : Netlist → List Explored → ℕ
unsettled_in netlist explored =
    count_by (λ one. is_not_settled (transition_count netlist one)) (all_transitions explored)

-- a transition of a state by a burst is listed
pub record IsTransitionAt (explored : List Explored) (state : List Bool) (burst : List (ℕ × Bool))
    (transition : Transition) : Type 0 where
  pub listed : Contains (all_transitions explored) transition
  pub start : transition.start ≡ state
  pub by : transition.burst ≡ burst

-- the runs of a change that keep orders, or all if there are none, come to a state
abbrev pub IsOutcomeUnder : List Order → List Driver → (input start state : List Bool) → Type 0
IsOutcomeUnder [] net input start state = IsOutcome net input start state
IsOutcomeUnder (order ∷ orders) net input start state =
    IsKeptOutcome (order ∷ orders) net input start state

-- along those runs variable i changes at most once
abbrev pub ChangesOnce : List Order → List Driver → (input start : List Bool) → ℕ → Type 0
ChangesOnce [] net input start i = ChangesAtMost net input start i 1
ChangesOnce (order ∷ orders) net input start i =
    ChangesAtMostUnder (order ∷ orders) net input start i 1

-- A burst comes from a state to another one: its transition is listed and settles, and the other state is an outcome of runs that keep the
-- orders which the transition uses.
pub record BringsTo (netlist : Netlist) (explored : List Explored) (state : List Bool)
    (burst : List (ℕ × Bool)) (next : List Bool) : Type 0 where
  pub transition : Transition
  pub at : IsTransitionAt explored state burst transition
  pub end : List Bool
  pub settled : transition.outcome ≡ Settled end
  pub outcome :
      IsOutcomeUnder transition.found.used (network_of netlist) transition.found.input
      transition.found.start next

-- What an exploration says of all runs, if nothing is assumed. Each state is reached whatever the delays. If no state was left out, every
-- state that is reached so is there. If besides no transition leaves a variable unsettled, each burst settles, in whatever order they come,
-- each after the one before it has settled. If no transition has a hazard either, the circuit is safe: each node changes at most once in
-- each burst, along every run.
pub record IsOfAllRuns (netlist : Netlist) (bursts : List (List (ℕ × Bool))) (start : List Bool)
    (explored : List Explored) : Type 0 where
  pub reached :
      All (λ one. IsReachedState (Settles netlist) bursts start (state_of netlist one)) explored
  pub complete : is_whole netlist explored ≡ true →
      (state : List Bool) → IsReachedState (Settles netlist) bursts start state →
      has_state (all_nodes explored) (nodes_of netlist state) ≡ true
  pub settles : is_whole netlist explored ≡ true → unsettled_in netlist explored ≡ 0 →
      (state : List Bool) (burst : List (ℕ × Bool)) →
      IsReachedState (Settles netlist) bursts start state →
      Contains bursts burst → applies state burst ≡ true →
      (next : List Bool) × Settles netlist state burst next
  pub safe : is_whole netlist explored ≡ true → hazards_in netlist explored ≡ 0 →
      unsettled_in netlist explored ≡ 0 →
      (state : List Bool) (burst : List (ℕ × Bool)) (i : ℕ) →
      IsReachedState (Settles netlist) bursts start state →
      Contains bursts burst → applies state burst ≡ true → i < length netlist.names →
      ChangesAtMost (network_of netlist) (input_after netlist state burst) state i 1

-- The exploration of a circuit by bursts from a start under assumptions of time:
-- each state has its transitions, and each node is steady in them or counted by its class;
-- the states are the start and then those in which transitions end, in the order in which they are first seen, as long as there is
-- room.
-- So each of them is a stable start, bursts lead to it under the assumptions, and none stands twice.
-- If none was left out, bursts never come to a state that is not there, along the runs that keep the orders which their transitions use.
-- If besides no transition leaves a variable unsettled or has a hazard, the circuit is safe along these runs: each node changes at most
-- once in each burst, and a run that keeps the orders is shown.
-- If nothing is assumed, all this is true of all runs.
pub record IsExploration (netlist : Netlist) (cap : ℕ) (assumptions : List Assumption)
    (bursts : List (List (ℕ × Bool))) (start : List Bool) (explored : List Explored) : Type 0 where
  pub transitions :
      All (λ one. AreTransitions netlist cap assumptions bursts (state_of netlist one)
      one.transitions) explored
  pub order : all_nodes explored
      ≡ found_by [] (nodes_of netlist start ∷ ends_of netlist (all_transitions explored))
  pub told :
      All (λ one. All (λ each. AreTold netlist assumptions each.found each.outcome)
      one.transitions) explored
  pub stable : All (λ one. IsStableStart netlist (state_of netlist one)) explored
  pub led :
      All (λ one. IsReachedState (SettlesUnder netlist cap assumptions) bursts start
      (state_of netlist one)) explored
  pub once : IsDistinct same_state (all_nodes explored)
  pub stays : is_whole netlist explored ≡ true →
      (state : List Bool) → IsReachedState (BringsTo netlist explored) bursts start state →
      has_state (all_nodes explored) (nodes_of netlist state) ≡ true
  pub safe : is_whole netlist explored ≡ true → hazards_in netlist explored ≡ 0 →
      unsettled_in netlist explored ≡ 0 →
      (state : List Bool) (burst : List (ℕ × Bool)) →
      IsReachedState (BringsTo netlist explored) bursts start state →
      Contains bursts burst → applies state burst ≡ true →
      (transition : Transition) × IsTransitionAt explored state burst transition
      × (is_shown transition.found.used transition.found.kept ≡ true)
      × ((i : ℕ) → i < length netlist.names →
      ChangesOnce transition.found.used (network_of netlist) (input_after netlist state burst)
      state i)
  pub all_runs : assumptions ≡ [] → IsOfAllRuns netlist bursts start explored
