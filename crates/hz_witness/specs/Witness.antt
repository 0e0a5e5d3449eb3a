-- One run that serves all variables of a change at once, and how often it changes each of them.
use Rattle.std.specs.Prelude.{◌≡◌, ℕ, ◌<◌, ◌≤◌, Bool, List, length, IsTrue, slice_index_or}
use Rattle.hz_core.specs.declared.tri.Tri.{Tri}
use Rattle.hz_core.specs.Ternary.{admits, Refines}
use Rattle.hz_net.specs.Network.{Driver, bit_at, value_at, excitation}
use Rattle.hz_net.specs.Passes.{IsKnown, IsUnknown}
use Rattle.hz_net.specs.Reads.{IsNode}
use Rattle.hz_gmw.specs.Runs.{IsRun, end_of}
use Rattle.hz_reach.specs.Spread.{changes_in}

-- counts tell of each variable in how many steps a run changes it
abbrev pub AreCounts : List Driver → List (List ℕ) → List ℕ → Type 0
AreCounts net steps counts =
    (i : ℕ) → i < length net → slice_index_or counts i 0 ≡ changes_in steps i

-- a run from the start, the state in which it ends, and how often it changes each variable
pub record IsTried (net : List Driver) (input start : List Bool) (steps : List (List ℕ))
    (state : List Bool) (counts : List ℕ) : Type 0 where
  pub run : IsRun net input start steps
  pub ends : end_of start steps ≡ state
  pub counted : AreCounts net steps counts

-- variable i has changed, if it is a node that is X in the result of Algorithm A
abbrev pub DoesChange : List Driver → List Tri → List ℕ → ℕ → Type 0
DoesChange net a counts i =
    IsUnknown (value_at a i) → IsNode net i → 1 ≤ slice_index_or counts i 0

-- each node that is X in the result of Algorithm A has changed
abbrev pub DoNodesChange : List Driver → List Tri → List ℕ → Type 0
DoNodesChange net a counts = (i : ℕ) → i < length net → DoesChange net a counts i

-- what must settle has settled: a variable that Algorithm B makes 0 or 1 has this value and is stable
pub record IsSettledAt (net : List Driver) (input : List Bool) (b : List Tri) (state : List Bool)
    (i : ℕ) : Type 0 where
  pub value : IsTrue (admits (value_at b i) (bit_at state i))
  pub stable : IsKnown (value_at b i) → bit_at state i ≡ excitation net input state i

-- each variable that must settle has settled
abbrev pub AreSettled : List Driver → List Bool → List Tri → List Bool → Type 0
AreSettled net input b state = (i : ℕ) → i < length net → IsSettledAt net input b state i

-- each node that is X in the result of Algorithm A changes in some step
abbrev pub ShowsNodes : List Driver → List Tri → List (List ℕ) → Type 0
ShowsNodes net a steps =
    (i : ℕ) → i < length net → IsUnknown (value_at a i) → IsNode net i → 1 ≤ changes_in steps i

-- A witness of a change: one run from the start in which each node that is X in the result of Algorithm A changes, and in whose
-- last state each variable that is not X in the result of Algorithm B has its value and is stable. The counts say how often it
-- changes each variable. A wire need not change: it may wait for ever.
pub record IsWitness (net : List Driver) (input start : List Bool) (a b : List Tri)
    (steps : List (List ℕ)) (counts : List ℕ) : Type 0 where
  pub run : IsRun net input start steps
  pub nodes : ShowsNodes net a steps
  pub values : Refines (end_of start steps) b
  pub stable : (i : ℕ) → i < length net → IsKnown (value_at b i) →
      bit_at (end_of start steps) i ≡ excitation net input (end_of start steps) i
  pub counted : AreCounts net steps counts
