-- What holds of the runs that are found.
use Rattle.std.specs.Prelude.{◌≢◌, ◌≤◌, ℕ, Bool, List, length, All}
use Rattle.std.specs.List.{AllPairs}
use Rattle.hz_core.specs.Netlist.{Netlist}
use Rattle.hz_net.specs.Network.{Driver, IsStable}
use Rattle.hz_gmw.specs.Runs.{IsRun, end_of}
use Rattle.hz_gmw.specs.Cycles.{IsOutcome}

-- a circuit, and the runs that are found
pub record SplitOf : Type 0 where
  pub netlist : Netlist
  pub found : List (List (List ℕ))

-- a run from a start to a stable state, which is an outcome state
pub record IsSettledRun (net : List Driver) (input start : List Bool)
    (run : List (List ℕ)) : Type 0 where
  pub is_run : IsRun net input start run
  pub stable : IsStable net input (end_of start run)
  pub outcome : IsOutcome net input start (end_of start run)

-- at most two such runs, which end in different states
pub record AreSettledRuns (net : List Driver) (input start : List Bool)
    (runs : List (List (List ℕ))) : Type 0 where
  pub few : length runs ≤ 2
  pub each : All (IsSettledRun net input start) runs
  pub differ : AllPairs (λ run other. end_of start run ≢ end_of start other) runs
