-- The settle run and the cycle: runs that show what may last.
use Rattle.std.specs.Prelude.{◌≡◌, ℕ, ◌*◌, ◌<◌, ◌≤◌, Bool, List, [], length, Contains}
use Rattle.hz_core.specs.declared.tri.Tri.{Tri}
use Rattle.hz_core.specs.Ternary.{unknown_count, Refines}
use Rattle.hz_core.specs.Netlist.{Netlist}
use Rattle.hz_net.specs.Network.{Driver, network_of, bit_at, value_at, excitation}
use Rattle.hz_net.specs.Passes.{algorithm_b, IsKnown, IsUnknown, IsResult, AreSettlingRounds}
use Rattle.hz_gmw.specs.Runs.{IsRun, end_of}
use Rattle.hz_gmw.specs.RunRecord.{flip_count}
use Rattle.hz_gmw.specs.Cycles.{states_of, IsNontransient}
use Rattle.hz_reach.specs.Given.{AreResultsOfA}

-- What both algorithms give for a change: their results, the ranks and the settling rounds.
pub record AreResultsOfBoth (netlist : Netlist) (start input : List Bool) (a : List Tri)
    (ranks : List ℕ) (b : List Tri) (when : List ℕ) : Type 0 where
  pub of_a : AreResultsOfA netlist start input a ranks
  pub b_result : IsResult (algorithm_b (network_of netlist) input a) b
  pub settling : AreSettlingRounds (algorithm_b (network_of netlist) input a) a b when

-- The ranks of Algorithm A and the result of Algorithm B come from a change: from a stable start to this input.
pub record ComeFromAChange (netlist : Netlist) (input : List Bool) (ranks : List ℕ)
    (b : List Tri) : Type 0 where
  pub start : List Bool
  pub a : List Tri
  pub of_a : AreResultsOfA netlist start input a ranks
  pub b_result : IsResult (algorithm_b (network_of netlist) input a) b

-- The settle run: a run from the start in whose last state each variable that is not X in the result of Algorithm B has
-- its value and is stable. It has at most two flips for each X of Algorithm A.
pub record IsSettleRun (net : List Driver) (input start : List Bool) (a b : List Tri)
    (steps : List (List ℕ)) : Type 0 where
  pub run : IsRun net input start steps
  pub values : Refines (end_of start steps) b
  pub stable :
      (i : ℕ) → i < length net → IsKnown (value_at b i) →
      bit_at (end_of start steps) i ≡ excitation net input (end_of start steps) i
  pub flips : flip_count steps ≤ 2 * unknown_count a

-- The cycle of a change, from one of its states: a nontransient cycle. Each variable that is X in the result of Algorithm B
-- has both bits in its states, and every other variable keeps its value there and is stable in each of them. It has at most
-- four flips for each X, and no step if there is none.
pub record IsCycleOf (net : List Driver) (input : List Bool) (b : List Tri) (state : List Bool)
    (steps : List (List ℕ)) : Type 0 where
  pub nontransient : IsNontransient net input state steps
  pub both :
      (i : ℕ) (bit : Bool) → IsUnknown (value_at b i) →
      (member : List Bool) × Contains (states_of state steps) member × (bit_at member i ≡ bit)
  pub values : (member : List Bool) → Contains (states_of state steps) member → Refines member b
  pub stable :
      (member : List Bool) → Contains (states_of state steps) member → (i : ℕ) → i < length net →
      IsKnown (value_at b i) →
      bit_at member i ≡ excitation net input member i
  pub flips : flip_count steps ≤ 4 * unknown_count b
  pub none : unknown_count b ≡ 0 → steps ≡ []
