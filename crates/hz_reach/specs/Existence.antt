-- What every change has: laws over the definitions alone.
use Rattle.std.specs.Prelude.{ℕ, Bool, List}
use Rattle.hz_core.specs.declared.tri.Tri.{Tri}
use Rattle.hz_core.specs.Netlist.{Netlist, IsCircuit}
use Rattle.hz_net.specs.Network.{network_of, value_at, IsStable, IsState}
use Rattle.hz_net.specs.Passes.{algorithm_a, AreRounds, IsResult, AreRanks}
use Rattle.hz_net.specs.Starts.{IsStableStart}
use Rattle.hz_gmw.specs.Runs.{IsReachable, JoinsTo}
use Rattle.hz_reach.specs.Spread.{IsSpreadRun, IsSparingRun}

-- Algorithm A is exact: from a start that is stable under its own input, the value of its result at a variable is the join
-- of the values that the variable has in the reachable states.
abbrev pub AIsExact : Type 0
AIsExact =
    (netlist : Netlist) (input own start : List Bool) (rounds i : ℕ) → IsCircuit netlist →
    IsState netlist start →
    IsStable (network_of netlist) own start →
    AreRounds (algorithm_a (network_of netlist) input start) rounds →
    JoinsTo (IsReachable (network_of netlist) input start) i
    (value_at (algorithm_a (network_of netlist) input start rounds) i)

-- From every stable start of a circuit, under every input, there is a spread run
abbrev pub SpreadRunExists : Type 0
SpreadRunExists =
    (netlist : Netlist) (input start : List Bool) (a : List Tri) → IsCircuit netlist →
    IsStableStart netlist start →
    IsResult (algorithm_a (network_of netlist) input start) a →
    (steps : List (List ℕ)) × IsSpreadRun (network_of netlist) input start a steps

-- and one in which the wires stay that it does not need
abbrev pub SparingRunExists : Type 0
SparingRunExists =
    (netlist : Netlist) (input start : List Bool) (a : List Tri) (ranks : List ℕ) →
    IsCircuit netlist →
    IsStableStart netlist start → IsResult (algorithm_a (network_of netlist) input start) a →
    AreRanks (algorithm_a (network_of netlist) input start) a ranks →
    (steps : List (List ℕ)) × IsSparingRun (network_of netlist) input start a ranks steps
