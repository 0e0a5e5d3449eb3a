-- States of a circuit in the order in which they were found, each once. The number of a state is its place, and begins with 0.
use Rattle.std.specs.Prelude.{ℕ, ◌≤◌, ◌^◌, Bool, Option, List, [], ◌∷◌, ◌++◌, if◌then◌else◌, length, position}
use Rattle.std.specs.Bool.{beq}
use Rattle.std.specs.Cmp.Lexicographic.{pointwise}
use Rattle.std.specs.List.{list_any, slice_index_or, IsDistinct}

-- two states have the same bits
abbrev pub same_state : List Bool → List Bool → Bool
same_state state other = pointwise beq state other

-- a state is among these
abbrev pub has_state : List (List Bool) → List Bool → Bool
has_state states state = list_any (same_state state) states

-- the states with one more at the end, unless they have it
abbrev pub with_state : List (List Bool) → List Bool → List (List Bool)
with_state states state = if has_state states state then states else states ++ state ∷ []

-- the number of a state, if it is there: its place
abbrev pub state_number : List (List Bool) → List Bool → Option ℕ
state_number states state = position (same_state state) states

-- the state with a number
abbrev pub state_at : List (List Bool) → ℕ → List Bool
state_at states number = slice_index_or states number []

-- No state stands twice, and each has a number of 32 bits.
pub record HoldsStates (states : List (List Bool)) : Type 0 where
  pub distinct : IsDistinct same_state states
  pub few : length states ≤ 2 ^ 32
