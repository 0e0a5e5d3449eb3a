-- The spread run: a run from the start in which each variable that Algorithm A makes X changes once.
use Rattle.std.specs.Prelude.{◌≡◌, ℕ, ◌≤◌, Bool, List}
use Rattle.std.specs.List.{count_by}
use Rattle.hz_core.specs.declared.tri.Tri.{Tri}
use Rattle.hz_net.specs.Network.{Driver, Source, driver_at, value_at}
use Rattle.hz_net.specs.Reads.{IsWireInto, IsNode}
use Rattle.hz_net.specs.Passes.{IsKnown, IsUnknown}
use Rattle.hz_lists.specs.Listed.{is_listed}
use Rattle.hz_gmw.specs.Runs.{IsRun}
use Rattle.hz_reach.specs.Order.{IsEarlier}

-- in how many of its steps a run changes variable i
abbrev pub changes_in : List (List ℕ) → ℕ → ℕ
changes_in steps i = count_by (λ flips. is_listed flips i) steps

-- The spread run: it changes each variable that is X in the result of Algorithm A once, and no other variable.
pub record IsSpreadRun (net : List Driver) (input start : List Bool) (a : List Tri)
    (steps : List (List ℕ)) : Type 0 where
  pub run : IsRun net input start steps
  pub known : (i : ℕ) → IsKnown (value_at a i) → changes_in steps i ≡ 0
  pub unknown : (i : ℕ) → IsUnknown (value_at a i) → changes_in steps i ≡ 1

-- A spread run in which wires may stay: each node that is X in the result of Algorithm A changes once, each wire that is
-- X there at most once, and no other variable. A wire changes only where its source is earlier than its gate, by rank and
-- then by number.
pub record IsSparingRun (net : List Driver) (input start : List Bool) (a : List Tri)
    (ranks : List ℕ) (steps : List (List ℕ)) : Type 0 where
  pub run : IsRun net input start steps
  pub known : (i : ℕ) → IsKnown (value_at a i) → changes_in steps i ≡ 0
  pub nodes : (i : ℕ) → IsUnknown (value_at a i) → IsNode net i → changes_in steps i ≡ 1
  pub wires : (i : ℕ) → changes_in steps i ≤ 1
  pub later :
      (wire source gate : ℕ) → driver_at net wire ≡ Source source → IsWireInto net gate wire →
      (IsEarlier ranks source gate → ⊥) → changes_in steps wire ≡ 0
