-- Race states: states in which two variables or more are unstable, so that they may change in either order.
use Rattle.std.specs.Prelude.{ℕ, Bool, List, [], ◌∷◌, count_by, nat_le}
use Rattle.hz_net.specs.Network.{Driver}
use Rattle.hz_gmw.specs.Runs.{state_after}
use Rattle.hz_gmw.specs.Instability.{unstable_count}

-- whether a state is a race state
abbrev pub is_race : List Driver → List Bool → List Bool → Bool
is_race net input state = nat_le 2 (unstable_count net input state)

-- how many of some states are race states, each counted as often as it comes
abbrev pub race_count : List Driver → List Bool → List (List Bool) → ℕ
race_count net input states = count_by (is_race net input) states

-- the states of a run but its last: those in which its steps begin
abbrev pub states_before : List Bool → List (List ℕ) → List (List Bool)
states_before state [] = []
states_before state (flips ∷ steps) = state ∷ states_before (state_after flips state) steps

-- the states of a cycle without the last, which is the first again; a cycle without a step has one state
abbrev pub cycle_states : List Bool → List (List ℕ) → List (List Bool)
cycle_states state [] = state ∷ []
cycle_states state (flips ∷ steps) = states_before state (flips ∷ steps)
