-- The variables that a refusal of runs names.
use Rattle.std.specs.Prelude.{ℕ, [], Option, Some, None, IfSome}
use Rattle.hz_core.specs.Netlist.{Netlist}
use Rattle.hz_net.specs.Network.{IsVariable}
use Rattle.hz_gmw.specs.declared.replay_fault.StepFault.{StepFault}
use Rattle.hz_gmw.specs.declared.replay_fault.StepFault.TheVariants.{Empty, Repeated, Stable}
use Rattle.hz_gmw.specs.declared.replay_fault.CycleFault.{CycleFault}
use Rattle.hz_gmw.specs.declared.replay_fault.CycleFault.TheVariants.{Differs, NotStable, Transient}
use Rattle.hz_text.specs.RunParts.{RunOf}
use Rattle.hz_replay.specs.declared.replaying.RunRefusal.{RunRefusal}
use Rattle.hz_replay.specs.declared.replaying.RunRefusal.TheVariants as refused

-- a run without a step
abbrev pub no_run : RunOf
no_run = record { lead = []; cycle = None }

-- the variable that a fault of a step names, if it names one
abbrev pub step_variable : StepFault → Option ℕ
step_variable Empty = None
step_variable (Repeated var) = Some var
step_variable (Stable var) = Some var

-- the variable that a fault of a cycle names
abbrev pub cycle_variable : CycleFault → ℕ
cycle_variable (Differs var) = var
cycle_variable (NotStable var) = var
cycle_variable (Transient var) = var

-- the variable that a refusal names, if it names one
abbrev pub named_variable : RunRefusal → Option ℕ
named_variable (refused.Step number fault) = step_variable fault
named_variable (refused.Cycle fault) = Some (cycle_variable fault)

-- what is named, if anything is, is a variable of the network
abbrev pub NamesVariable : Netlist → Option ℕ → Type 0
NamesVariable netlist named = IfSome named (IsVariable netlist)
