-- Rounds that evaluate only some of the variables: what such a round makes, and which variables it has to evaluate.
use Rattle.std.specs.Prelude.{◌≡◌, ◌≢◌, ℕ, zero, suc, ◌+◌, ◌<◌, ◌⊎◌, Bool, not, List, [], ◌∷◌, length, fold, sum_by, Contains, slice_index, slice_set, if◌then◌else◌}
use Rattle.hz_core.specs.declared.tri.Tri.{Tri}
use Rattle.hz_core.specs.Ternary.{join_of, is_unknown, AllBelow}
use Rattle.hz_core.specs.Netlist.{Netlist}
use Rattle.hz_net.specs.Network.{Driver, driver_at, value_at, excitation3}
use Rattle.hz_net.specs.Passes.{excitations, join_each, IsFirstRound}
use Rattle.hz_net.specs.Reads.{Reads, readers_of}
use Rattle.hz_pass.specs.declared.round.Rule.{Rule}
use Rattle.hz_pass.specs.declared.round.Rule.TheVariants.{Join, Replace}

-- the next value of a variable, by its value and its excitation
abbrev pub next_value : Rule → Tri → Tri → Tri
next_value Join value excited = join_of value excited
next_value Replace value excited = excited

-- the state that a round makes
abbrev pub next_state : Rule → List Driver → List Bool → List Tri → List Tri
next_state Join net input state = join_each state (excitations net input state)
next_state Replace net input state = excitations net input state

-- the states that rounds make from a first one
abbrev pub round_states : Rule → List Driver → List Bool → List Tri → ℕ → List Tri
round_states rule net input first zero = first
round_states rule net input first (suc round) =
    next_state rule net input (round_states rule net input first round)

-- each number is the first round in which a variable has the value that it has in a state
pub record AreFirstRounds (sequence : ℕ → List Tri) (state : List Tri)
    (rounds : List ℕ) : Type 0 where
  pub long : length rounds ≡ length state
  pub each : (i : ℕ) → i < length state →
      IsFirstRound sequence i (λ value. value ≡ value_at state i) (slice_index rounds i)

-- if excitations take the place of the state, they lie below it
abbrev pub Falls : Rule → List Driver → List Bool → List Tri → Type 0
Falls Join net input state = Unit {0}
Falls Replace net input state = AllBelow (excitations net input state) state

-- variable i has the value that the round makes
abbrev pub IsMade : Rule → List Driver → List Bool → List Tri → List Tri → ℕ → Type 0
IsMade rule net input state next i =
    value_at next i ≡ next_value rule (value_at state i) (excitation3 net input state i)

-- a list has the variables at which two states differ, and no others
pub record ListsChanges (before after : List Tri) (changed : List ℕ) : Type 0 where
  pub each : (i : ℕ) → Contains changed i → value_at after i ≢ value_at before i
  pub every : (i : ℕ) → value_at after i ≢ value_at before i → Contains changed i

-- a value that later rounds may change: one that is known in Algorithm A, and X in Algorithm B
abbrev pub is_open : Rule → Tri → Bool
is_open Join value = not (is_unknown value)
is_open Replace value = is_unknown value

-- the weight of the variables that later rounds may change, of values that begin at a variable
abbrev pub open_weight_from : Rule → (ℕ → ℕ) → ℕ → List Tri → ℕ
open_weight_from rule weight first [] = 0
open_weight_from rule weight first (value ∷ values) =
    (if is_open rule value then weight first else 0)
    + open_weight_from rule weight (suc first) values

abbrev pub open_weight : Rule → (ℕ → ℕ) → List Tri → ℕ
open_weight rule weight values = open_weight_from rule weight 0 values

-- Within a round: each variable has the value that it had or the one that the round makes, the list has those that changed,
-- and whatever variables weigh, the listed ones weigh what the variables that may still change have lost.
pub record IsRoundSoFar (rule : Rule) (net : List Driver) (input : List Bool)
    (state next : List Tri) (changed : List ℕ) : Type 0 where
  pub long : length next ≡ length state
  pub either : (i : ℕ) → (value_at next i ≡ value_at state i) ⊎ IsMade rule net input state next i
  pub lists : ListsChanges state next changed
  pub balance : (weight : ℕ → ℕ) →
      sum_by weight changed + open_weight rule weight next ≡ open_weight rule weight state

-- a whole round: the next state, and what changed
pub record IsRound (rule : Rule) (net : List Driver) (input : List Bool) (state next : List Tri)
    (changed : List ℕ) : Type 0 where
  pub made : next ≡ next_state rule net input state
  pub lists : ListsChanges state next changed
  pub balance : (weight : ℕ → ℕ) →
      sum_by weight changed + open_weight rule weight next ≡ open_weight rule weight state

-- a round leaves each variable as it is that reads none of the listed ones
abbrev pub IsQuiet : Rule → List Driver → List Bool → List Tri → List ℕ → Type 0
IsQuiet rule net input state changed =
    (i : ℕ) → i < length net →
    ((source : ℕ) → Contains changed source → Reads (driver_at net i) source → ⊥) →
    IsMade rule net input state state i

-- how many variables read one
abbrev pub reader_count : Netlist → ℕ → ℕ
reader_count netlist i = length (readers_of netlist i)

-- a state in which listed variables have the values that they have in another
abbrev pub with_values_of : List Tri → List Tri → List ℕ → List Tri
with_values_of next state list = fold (λ state i. slice_set state i (value_at next i)) state list
