-- What the runs of a run text come to, by the step relation and the definitions of cycles.
use Rattle.std.specs.Prelude.{◌≡◌, ℕ, ◌+◌, Bool, List, ◌∷◌, ◌++◌, length, All, Some, IfSome, is_some, count_by}
use Rattle.hz_core.specs.Netlist.{Netlist}
use Rattle.hz_net.specs.Network.{Driver, network_of}
use Rattle.hz_net.specs.Variables.{expansion_of}
use Rattle.hz_gmw.specs.Runs.{IsRun, end_of}
use Rattle.hz_gmw.specs.Cycles.{IsNontransient}
use Rattle.hz_gmw.specs.ReplayFaults.{IsStepFault, IsCycleFault}
use Rattle.hz_gmw.specs.declared.replay_fault.StepFault.{StepFault}
use Rattle.hz_gmw.specs.declared.replay_fault.CycleFault.{CycleFault}
use Rattle.hz_text.specs.RunParts.{RunOf, cycle_steps}
use Rattle.hz_run_text.specs.RunValue.{RunTextOf, all_steps}
use Rattle.hz_replay.specs.declared.replaying.RunRefusal.{RunRefusal}
use Rattle.hz_replay.specs.declared.replaying.RunRefusal.TheVariants.{Step, Cycle}

-- all steps of a run, those of its cycle behind those of its lead
abbrev pub steps_of : RunOf → List (List ℕ)
steps_of run = run.lead ++ cycle_steps run.cycle

-- how many steps all runs have
abbrev pub total_steps : List RunOf → ℕ
total_steps runs = length (all_steps runs)

-- how many runs have a cycle
abbrev pub total_cycles : List RunOf → ℕ
total_cycles runs = count_by (λ run. is_some run.cycle) runs

-- A run is accepted: its lead is a run from the start, and its cycle, if it has one, is a nontransient cycle from the state
-- in which the lead ends.
pub record IsAcceptedRun (net : List Driver) (input start : List Bool) (run : RunOf) : Type 0 where
  pub lead : IsRun net input start run.lead
  pub cycle : IfSome run.cycle (IsNontransient net input (end_of start run.lead))

-- A step is refused, by its number from 1: the steps before it are a run from the start, and it is no step from the state
-- in which they end.
pub record IsRefusedStep (net : List Driver) (input start : List Bool) (steps : List (List ℕ))
    (number : ℕ) (fault : StepFault) : Type 0 where
  pub before : List (List ℕ)
  pub flips : List ℕ
  pub after : List (List ℕ)
  pub whole : steps ≡ before ++ flips ∷ after
  pub place : number ≡ length before + 1
  pub run : IsRun net input start before
  pub refused : IsStepFault net input (end_of start before) flips fault

-- The cycle of a run is refused: all steps of the run are steps, and those of the cycle are no nontransient cycle from the
-- state in which the lead ends.
pub record IsRefusedCycle (net : List Driver) (input start : List Bool) (run : RunOf)
    (fault : CycleFault) : Type 0 where
  pub steps : List (List ℕ)
  pub is_cycle : run.cycle ≡ Some steps
  pub all_steps : IsRun net input start (run.lead ++ steps)
  pub refused : IsCycleFault net input (end_of start run.lead) steps fault

-- why a run is refused: for a step, numbered through lead and cycle, or for its cycle
abbrev pub IsRefusedRun : List Driver → List Bool → List Bool → RunOf → RunRefusal → Type 0
IsRefusedRun net input start run (Step number fault) =
    IsRefusedStep net input start (steps_of run) number fault
IsRefusedRun net input start run (Cycle fault) = IsRefusedCycle net input start run fault

-- The first refusal, of the run with this number, counted from 1: all runs before it are accepted.
pub record IsFirstRefusal (net : List Driver) (input start : List Bool) (runs : List RunOf)
    (number : ℕ) (refused : RunRefusal) : Type 0 where
  pub before : List RunOf
  pub run : RunOf
  pub after : List RunOf
  pub whole : runs ≡ before ++ run ∷ after
  pub place : number ≡ length before + 1
  pub accepted : All (IsAcceptedRun net input start) before
  pub is_refused : IsRefusedRun net input start run refused

-- the state in which each run of a text begins: each node has its bit, each wire its source's
abbrev pub start_of : Netlist → RunTextOf → List Bool
start_of netlist text = expansion_of netlist text.nodes

-- each run of a text is accepted
abbrev pub AreAccepted : Netlist → RunTextOf → Type 0
AreAccepted netlist text =
    All (IsAcceptedRun (network_of netlist) text.input (start_of netlist text)) text.runs

-- this is the first refusal of a text
abbrev pub IsRefusalOfText : Netlist → RunTextOf → ℕ → RunRefusal → Type 0
IsRefusalOfText netlist text number refused =
    IsFirstRefusal (network_of netlist) text.input (start_of netlist text) text.runs number refused
