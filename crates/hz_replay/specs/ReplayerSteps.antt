-- What steps leave of a replayer.
use Rattle.std.specs.Prelude.{◌≡◌, ℕ, ◌+◌, Bool, List, ◌++◌, All, Option}
use Rattle.hz_core.specs.Netlist.{Netlist}
use Rattle.hz_net.specs.Network.{Driver, network_of, IsVariable}
use Rattle.hz_gmw.specs.Runs.{IsRun, end_of}
use Rattle.hz_gmw.specs.Replayer.{Replayer, StandsFor}
use Rattle.hz_gmw.specs.ReplayFaults.{IsCycleFault}
use Rattle.hz_text.specs.RunParts.{RunOf}
use Rattle.hz_replay.specs.declared.replaying.RunRefusal.{RunRefusal}
use Rattle.hz_replay.specs.declared.replaying.RunRefusal.TheVariants.{Step, Cycle}
use Rattle.hz_replay.specs.Replaying.{IsRefusedStep}

-- the steps name variables of the network
abbrev pub AreVariables : Netlist → List (List ℕ) → Type 0
AreVariables netlist steps = All (λ flips. All (IsVariable netlist) flips) steps

-- the run of a lead and a cycle
abbrev pub run_of : List (List ℕ) → Option (List (List ℕ)) → RunOf
run_of lead cycle = record { lead = lead; cycle = cycle }

-- a replayer would begin again as it would have before
pub record KeepsInitialState (was now : Replayer) : Type 0 where
  pub circuit : now.circuit ≡ was.circuit
  pub input : now.input ≡ was.input
  pub begun : now.begun ≡ was.begun

-- Steps were made from a replayer's state: they are a run, the state is the one in which it ends, and the replayer stands
-- for each run for which it stood before, with these steps behind it.
pub record MakesSteps (was now : Replayer) (steps : List (List ℕ)) : Type 0 where
  pub run : IsRun (network_of was.circuit) was.input was.state steps
  pub begin : KeepsInitialState was now
  pub marked : now.marked ≡ was.marked
  pub ends : now.state ≡ end_of was.state steps
  pub stands : (earlier : List (List ℕ)) → StandsFor was earlier → StandsFor now (earlier ++ steps)

-- why a cycle behind so many steps is refused: one of its steps is, or they are no nontransient cycle
abbrev pub IsRefusedFrom : ℕ → List Driver → List Bool → List Bool → List (List ℕ) → RunRefusal →
    Type 0
IsRefusedFrom before net input start steps (Step number fault) =
    (own : ℕ) × (number ≡ before + own) × IsRefusedStep net input start steps own fault
IsRefusedFrom before net input start steps (Cycle fault) =
    IsRun net input start steps × IsCycleFault net input start steps fault
