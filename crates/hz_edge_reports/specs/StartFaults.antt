-- The fault of the first part of a script whose start can't be completed. Words about the inside of hz_edge_reports.
use Rattle.std.specs.Prelude.{◌⊎◌, Bool, List, [], ◌∷◌}
use Rattle.hz_core.specs.Netlist.{Netlist}
use Rattle.hz_net.specs.Starts.{IsAcceptedStart, IsLeastOpen, IsLeastUnstable}
use Rattle.hz_pass.specs.declared.completed_start.StartFault.{StartFault}
use Rattle.hz_pass.specs.declared.completed_start.StartFault.TheVariants.{Open, Unstable, Memory}
use Rattle.hz_script.specs.ScriptValue.{ScriptOf}

-- a start has this fault; memory may always run out
abbrev pub HasStartFault : Netlist → ScriptOf → StartFault → Type 0
HasStartFault netlist part (Open node) = IsLeastOpen netlist part.start node
HasStartFault netlist part (Unstable gate) = IsLeastUnstable netlist part.start gate
HasStartFault netlist part Memory = Unit {0}

-- the first part whose start is not accepted has this fault
abbrev pub IsFirstStartFault : Netlist → List ScriptOf → StartFault → Type 0
IsFirstStartFault netlist [] fault = ⊥
IsFirstStartFault netlist (part ∷ parts) fault =
    HasStartFault netlist part fault
    ⊎ ((start : List Bool) × IsAcceptedStart netlist part.start start
    × IsFirstStartFault netlist parts fault)
