-- What the runs of a change are given: what Algorithm A says of the change, a scratch, and a run without a step.
use Rattle.std.specs.Prelude.{◌≡◌, ℕ, ◌≤◌, Bool, List, []}
use Rattle.hz_core.specs.declared.tri.Tri.{Tri}
use Rattle.hz_core.specs.Netlist.{Netlist}
use Rattle.hz_net.specs.Network.{network_of, IsState, IsInput}
use Rattle.hz_net.specs.Passes.{algorithm_a, IsResult, AreRanks}
use Rattle.hz_net.specs.Starts.{IsStableStart}
use Rattle.hz_gmw.specs.RunRecord.{RunRecord}
use Rattle.hz_reach.specs.ScratchState.{ScratchState}

-- A change goes from a start that is stable under its own inputs to an input with a bit for each input of the circuit. Algorithm A
-- gives its result and the ranks for it.
pub record AreResultsOfA (netlist : Netlist) (start input : List Bool) (a : List Tri)
    (ranks : List ℕ) : Type 0 where
  pub begins : IsStableStart netlist start
  pub input_long : IsInput netlist input
  pub a_result : IsResult (algorithm_a (network_of netlist) input start) a
  pub ranked : AreRanks (algorithm_a (network_of netlist) input start) a ranks

-- a scratch has a state of the network, and no variable is marked
pub record IsScratchFor (netlist : Netlist) (scratch : ScratchState) : Type 0 where
  pub long : IsState netlist scratch.state
  pub none_marked : scratch.marked ≡ []

-- a run has no step yet, and has room for so many flips and as many steps
pub record IsEmptyRun (most : ℕ) (run : RunRecord) : Type 0 where
  pub empty : run.steps ≡ []
  pub flips : most ≤ run.spare_flips
  pub steps : most ≤ run.spare_steps
