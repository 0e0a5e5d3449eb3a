-- What the settle run and the cycle of a change show of Algorithm B.
use Rattle.std.specs.Prelude.{◌≡◌, ℕ, Bool, List, length}
use Rattle.hz_core.specs.declared.tri.Tri.{Tri}
use Rattle.hz_core.specs.Netlist.{Netlist, IsCircuit}
use Rattle.hz_net.specs.Network.{Driver, network_of, value_at}
use Rattle.hz_net.specs.Passes.{algorithm_a, algorithm_b, IsResult}
use Rattle.hz_net.specs.Starts.{IsStableStart}
use Rattle.hz_gmw.specs.Runs.{end_of, JoinsTo}
use Rattle.hz_gmw.specs.Cycles.{IsOutcome}
use Rattle.hz_reach.specs.Cycles.{IsSettleRun, IsCycleOf}

-- Algorithm B is exact if a change has a settle run and a cycle that begins at its end: the value of its result at a
-- variable is the join of the values that the variable has in the outcome states. So there are outcome states, and if
-- the result is X, one of them has 0 there and another has 1.
abbrev pub RunsShowB : Type 0
RunsShowB =
    (net : List Driver) (input start : List Bool) (a b : List Tri) (settle cycle : List (List ℕ))
    (i : ℕ) →
    length start ≡ length net → IsResult (algorithm_a net input start) a →
    IsResult (algorithm_b net input a) b →
    IsSettleRun net input start a b settle → IsCycleOf net input b (end_of start settle) cycle →
    JoinsTo (IsOutcome net input start) i (value_at b i)

-- A settle run of a change, and a cycle that begins at its end.
pub record HasSettleRunAndCycle (net : List Driver) (input start : List Bool)
    (a b : List Tri) : Type 0 where
  pub settle : List (List ℕ)
  pub cycle : List (List ℕ)
  pub is_settle : IsSettleRun net input start a b settle
  pub is_cycle : IsCycleOf net input b (end_of start settle) cycle

-- every stable start of a circuit has them under every input
abbrev pub SettleRunsExist : Type 0
SettleRunsExist =
    (netlist : Netlist) (input start : List Bool) (a b : List Tri) → IsCircuit netlist →
    IsStableStart netlist start → IsResult (algorithm_a (network_of netlist) input start) a →
    IsResult (algorithm_b (network_of netlist) input a) b →
    HasSettleRunAndCycle (network_of netlist) input start a b

-- Algorithm B is exact: for every circuit, stable start and input the value of its result at a variable is the join of the
-- values that the variable has in the outcome states.
abbrev pub BIsExact : Type 0
BIsExact =
    (netlist : Netlist) (input start : List Bool) (a b : List Tri) (i : ℕ) → IsCircuit netlist →
    IsStableStart netlist start → IsResult (algorithm_a (network_of netlist) input start) a →
    IsResult (algorithm_b (network_of netlist) input a) b →
    JoinsTo (IsOutcome (network_of netlist) input start) i (value_at b i)

-- and there is an outcome state
abbrev pub OutcomesExist : Type 0
OutcomesExist =
    (netlist : Netlist) (input start : List Bool) → IsCircuit netlist →
    IsStableStart netlist start →
    (state : List Bool) × IsOutcome (network_of netlist) input start state
