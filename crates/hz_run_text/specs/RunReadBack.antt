-- What is printed of a run text is read as that run text.
use Rattle.hz_core.specs.Netlist.{Netlist, IsCircuit}
use Rattle.hz_run_text.specs.RunFault.{IsRunFaultless}
use Rattle.hz_run_text.specs.RunPrinted.{run_text_printed}
use Rattle.hz_run_text.specs.RunText.{IsRunTextFor, IsRunValue}
use Rattle.hz_run_text.specs.RunValue.{RunTextOf}

-- what is printed of a run text of a circuit's network has no fault, and stands for the run text
abbrev pub PrintedRunsAreRead : Type 0
PrintedRunsAreRead =
    (netlist : Netlist) (value : RunTextOf) → IsCircuit netlist → IsRunTextFor netlist value →
    IsRunFaultless netlist (run_text_printed netlist value)
    × IsRunValue netlist (run_text_printed netlist value) value
