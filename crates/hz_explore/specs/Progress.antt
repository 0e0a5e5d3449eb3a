-- An exploration that is not done.
use Rattle.std.specs.Prelude.{◌≡◌, ℕ, ◌+◌, ◌≤◌, Bool, true, ◌&&◌, List, [], ◌∷◌, ◌++◌, length, All}
use Rattle.std.specs.List.{IsDistinct}
use Rattle.hz_core.specs.Netlist.{Netlist}
use Rattle.hz_net.specs.Starts.{IsStableStart}
use Rattle.hz_net.specs.Variables.{expansion_of}
use Rattle.hz_states.specs.States.{same_state}
use Rattle.hz_timing.specs.declared.script.Assumption.{Assumption}
use Rattle.hz_explore.specs.declared.counting.Totals.{Totals}
use Rattle.hz_explore.specs.Limits.{most_states}
use Rattle.hz_explore.specs.Reached.{nodes_of, IsReachedState, SettlesUnder}
use Rattle.hz_explore.specs.Transitions.{AreTransitions, ends_of}
use Rattle.hz_explore.specs.Counts.{Count, Clean, Hazard, NotSettled}
use Rattle.hz_explore.specs.Exploration.{Explored, all_nodes, all_transitions, found_by, state_of}

-- States that were found are the first ones of all states. If there was no room for more, they are all.
pub record Extends (found all : List (List Bool)) : Type 0 where
  pub later : List (List Bool)
  pub whole : all ≡ found ++ later
  pub full : most_states ≤ length found → later ≡ []

-- A state that was found: it is stable, and bursts lead to it.
pub record IsFound (netlist : Netlist) (cap : ℕ) (assumptions : List Assumption)
    (bursts : List (List (ℕ × Bool))) (start : List Bool) (nodes : List Bool) : Type 0 where
  pub long : length nodes ≡ length netlist.names
  pub stable : IsStableStart netlist (expansion_of netlist nodes)
  pub led : IsReachedState (SettlesUnder netlist cap assumptions) bursts start
      (expansion_of netlist nodes)

-- The first states of an exploration have their transitions, and these states were found by them.
pub record IsSoFar (netlist : Netlist) (cap : ℕ) (assumptions : List Assumption)
    (bursts : List (List (ℕ × Bool))) (start : List Bool) (done : List Explored)
    (found : List (List Bool)) : Type 0 where
  pub transitions :
      All (λ one. AreTransitions netlist cap assumptions bursts (state_of netlist one)
      one.transitions) done
  pub order : found
      ≡ found_by [] (nodes_of netlist start ∷ ends_of netlist (all_transitions done))
  pub front : (later : List (List Bool)) × (found ≡ all_nodes done ++ later)
  pub right : All (IsFound netlist cap assumptions bursts start) found
  pub once : IsDistinct same_state found
  pub few : length found ≤ most_states

-- the totals of no transition
abbrev pub no_totals : Totals
no_totals = record { clean = 0; hazards = 0; unsettled = 0; is_whole = true }

-- totals with one transition more
abbrev pub counted : Totals → Count → Bool → Totals
counted totals Clean is_found =
    record totals { clean = totals.clean + 1; is_whole = totals.is_whole && is_found }
counted totals Hazard is_found =
    record totals { hazards = totals.hazards + 1; is_whole = totals.is_whole && is_found }
counted totals NotSettled is_found = record totals { unsettled = totals.unsettled + 1 }
