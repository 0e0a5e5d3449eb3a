-- What a replayer is asked: whether a list is a step from its current state, and whether a run from its mark is a cycle.
use Rattle.std.specs.Prelude.{ℕ, List}
use Rattle.hz_net.specs.Network.{network_of}
use Rattle.hz_gmw.specs.Runs.{IsStep}
use Rattle.hz_gmw.specs.Cycles.{IsNontransient}
use Rattle.hz_gmw.specs.Replayer.{Replayer}
use Rattle.hz_gmw.specs.ReplayFaults.{IsStepFault, IsCycleFault}
use Rattle.hz_gmw.specs.declared.replay_fault.StepFault.{StepFault}
use Rattle.hz_gmw.specs.declared.replay_fault.CycleFault.{CycleFault}

-- the listed variables are a step from the current state
abbrev pub IsStepFor : Replayer → List ℕ → Type 0
IsStepFor now flips = IsStep (network_of now.circuit) now.input now.state flips

-- why they are none
abbrev pub IsStepFaultFor : Replayer → List ℕ → StepFault → Type 0
IsStepFaultFor now flips fault =
    IsStepFault (network_of now.circuit) now.input now.state flips fault

-- a run from the marked state is a nontransient cycle
abbrev pub IsCycleFor : Replayer → List (List ℕ) → Type 0
IsCycleFor now steps = IsNontransient (network_of now.circuit) now.input now.marked steps

-- why it is none
abbrev pub IsCycleFaultFor : Replayer → List (List ℕ) → CycleFault → Type 0
IsCycleFaultFor now steps fault =
    IsCycleFault (network_of now.circuit) now.input now.marked steps fault
