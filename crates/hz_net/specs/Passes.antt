-- Algorithms A and B: two sequences of ternary states, each state made from the one before it at all variables at once.
use Rattle.std.specs.Prelude.{◌≡◌, ◌≢◌, ℕ, zero, suc, ◌-◌, ◌<◌, ◌≤◌, Bool, true, false, not, ◌&&◌, List, [], ◌∷◌, length, map, slice_index}
use Rattle.hz_core.specs.declared.tri.Tri.{Tri}
use Rattle.hz_core.specs.declared.tri.Tri.TheVariants.{Unknown}
use Rattle.hz_core.specs.Ternary.{tri_of, is_unknown, join_of}
use Rattle.hz_net.specs.Network.{Driver, driver_value3, value_at}

-- the ternary excitations of all variables
abbrev pub excitations : List Driver → List Bool → List Tri → List Tri
excitations net input state = map (driver_value3 input state) net

-- the join of two ternary states, variable by variable
abbrev pub join_each : List Tri → List Tri → List Tri
join_each [] others = []
join_each (value ∷ values) [] = []
join_each (value ∷ values) (other ∷ others) = join_of value other ∷ join_each values others

-- Algorithm A, from any ternary state: each state is the join of the one before with its excitations
abbrev pub algorithm_a_from : List Driver → List Bool → List Tri → ℕ → List Tri
algorithm_a_from net input first zero = first
algorithm_a_from net input first (suc round) =
    let before = algorithm_a_from net input first round in
    join_each before (excitations net input before)

-- Algorithm A from a start, whose bits are its first state
abbrev pub algorithm_a : List Driver → List Bool → List Bool → ℕ → List Tri
algorithm_a net input start = algorithm_a_from net input (map tri_of start)

-- Algorithm B, from any ternary state: each state is the excitations of the one before
abbrev pub algorithm_b : List Driver → List Bool → List Tri → ℕ → List Tri
algorithm_b net input first zero = first
algorithm_b net input first (suc round) = excitations net input (algorithm_b net input first round)

-- The rounds of a sequence: the least number, at least 1, whose state equals the one before it.
pub record AreRounds (sequence : ℕ → List Tri) (rounds : ℕ) : Type 0 where
  pub some : 1 ≤ rounds
  pub settled : sequence rounds ≡ sequence (rounds - 1)
  pub least : (round : ℕ) → 1 ≤ round → round < rounds → sequence round ≢ sequence (round - 1)

-- the result of a sequence: its state after its rounds
abbrev pub IsResult : (ℕ → List Tri) → List Tri → Type 0
IsResult sequence result = (rounds : ℕ) × AreRounds sequence rounds × (result ≡ sequence rounds)

-- a number is the first round in which a variable has a value with a property
pub record IsFirstRound (sequence : ℕ → List Tri) (i : ℕ) (has : Tri → Type 0)
    (first : ℕ) : Type 0 where
  pub there : has (value_at (sequence first) i)
  pub least : (round : ℕ) → round < first → has (value_at (sequence round) i) → ⊥

-- a value is X
abbrev pub IsUnknown : Tri → Type 0
IsUnknown value = value ≡ Unknown

-- a value is 0 or 1
abbrev pub IsKnown : Tri → Type 0
IsKnown value = value ≢ Unknown

-- The first round in which a variable has a value with a property, if it has such a round to tell, else 0.
abbrev pub IsFirstRoundIf : Bool → (ℕ → List Tri) → ℕ → (Tri → Type 0) → ℕ → Type 0
IsFirstRoundIf true sequence i has round = IsFirstRound sequence i has round
IsFirstRoundIf false sequence i has round = round ≡ 0

-- the rank of a variable, by its value in the result: an X tells the first round in which it is X
abbrev pub IsRank : (ℕ → List Tri) → ℕ → Tri → ℕ → Type 0
IsRank sequence i result = IsFirstRoundIf (is_unknown result) sequence i IsUnknown

-- the settling round of a variable, by its first value and its value in the result: an X that becomes 0 or 1 tells the
-- first round in which it is 0 or 1
abbrev pub IsSettlingRound : (ℕ → List Tri) → ℕ → Tri → Tri → ℕ → Type 0
IsSettlingRound sequence i first result =
    IsFirstRoundIf (is_unknown first && not (is_unknown result)) sequence i IsKnown

-- each variable's rank
pub record AreRanks (sequence : ℕ → List Tri) (result : List Tri) (ranks : List ℕ) : Type 0 where
  pub long : length ranks ≡ length result
  pub each : (i : ℕ) → i < length result →
      IsRank sequence i (value_at result i) (slice_index ranks i)

-- each variable's settling round
pub record AreSettlingRounds (sequence : ℕ → List Tri) (first result : List Tri)
    (rounds : List ℕ) : Type 0 where
  pub long : length rounds ≡ length first
  pub each : (i : ℕ) → i < length first →
      IsSettlingRound sequence i (value_at first i) (value_at result i) (slice_index rounds i)
