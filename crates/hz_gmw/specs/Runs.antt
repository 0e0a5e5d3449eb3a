-- The general multiple-winner model: steps, runs and reachable states under an input that stays.
use Rattle.std.specs.Prelude.{◌≡◌, ◌≢◌, ℕ, suc, ◌<◌, Bool, not, if◌then◌else◌, List, [], ◌∷◌, length, IsTrue}
use Rattle.hz_lists.specs.Listed.{is_listed, IsRepeatFree}
use Rattle.hz_core.specs.declared.tri.Tri.{Tri}
use Rattle.hz_core.specs.Ternary.{IsJoinOf}
use Rattle.hz_net.specs.Network.{Driver, bit_at, IsUnstable}

-- Some variables may change at once: at least one, each named once, and only variables that are unstable.
pub record IsStep (net : List Driver) (input state : List Bool) (flips : List ℕ) : Type 0 where
  pub some : flips ≢ []
  pub once : IsRepeatFree flips
  pub inside : (i : ℕ) → IsTrue (is_listed flips i) → i < length net
  pub unstable : (i : ℕ) → IsTrue (is_listed flips i) → IsUnstable net input state i

-- the values from a place on, with those of the listed variables turned
abbrev pub bits_after_from : ℕ → List ℕ → List Bool → List Bool
bits_after_from place flips [] = []
bits_after_from place flips (bit ∷ bits) =
    (if is_listed flips place then not bit else bit) ∷ bits_after_from (suc place) flips bits

-- the state after a step: it differs from the one before at the listed variables and nowhere else
abbrev pub state_after : List ℕ → List Bool → List Bool
state_after flips state = bits_after_from 0 flips state

-- A run, by the lists of variables that its steps change: each is a step from the state that the earlier ones leave.
abbrev pub IsRun : List Driver → List Bool → List Bool → List (List ℕ) → Type 0
IsRun net input state [] = Unit {0}
IsRun net input state (flips ∷ steps) =
    IsStep net input state flips × IsRun net input (state_after flips state) steps

-- the state in which a run ends
abbrev pub end_of : List Bool → List (List ℕ) → List Bool
end_of state [] = state
end_of state (flips ∷ steps) = end_of (state_after flips state) steps

-- the states of a run, its first one included
abbrev pub states_of : List Bool → List (List ℕ) → List (List Bool)
states_of state [] = state ∷ []
states_of state (flips ∷ steps) = state ∷ states_of (state_after flips state) steps

-- some run from the start ends in the state
abbrev pub IsReachable : List Driver → List Bool → List Bool → List Bool → Type 0
IsReachable net input start state =
    (steps : List (List ℕ)) × IsRun net input start steps × (end_of start steps ≡ state)

-- the join, over a set of states, of the values of variable i: that value if all agree, else X
abbrev pub JoinsTo : (List Bool → Type 0) → ℕ → Tri → Type 0
JoinsTo states i = IsJoinOf (λ bit. (state : List Bool) × states state × (bit_at state i ≡ bit))
