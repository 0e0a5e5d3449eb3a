-- Every change comes to something.
use Rattle.std.specs.Prelude.{◌≡◌, ℕ, ◌≤◌, Bool, List, length, All}
use Rattle.hz_core.specs.Netlist.{Netlist, IsCircuit, IsWhole}
use Rattle.hz_net.specs.Starts.{IsStableStart}
use Rattle.hz_word.specs.Capped.{greatest_cap}
use Rattle.hz_timing.specs.declared.script.Assumption.{Assumption}
use Rattle.hz_timing.specs.TimedText.{IsAssumptionOf}
use Rattle.hz_edge_reports.specs.EdgeChanges.{ChangeOf, IsRightChange}

-- under any assumptions, from every stable start and under every input
abbrev pub ChangesExist : Type 0
ChangesExist =
    (netlist : Netlist) (assumptions : List Assumption) (input start : List Bool) (cap : ℕ) →
    IsCircuit netlist → IsWhole netlist → All (IsAssumptionOf netlist) assumptions →
    IsStableStart netlist start → length input ≡ netlist.inputs → 1 ≤ cap → cap ≤ greatest_cap →
    (found : ChangeOf) × (found.start ≡ start) × (found.input ≡ input)
    × IsRightChange netlist cap assumptions found
