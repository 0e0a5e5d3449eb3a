-- What there is for every change.
use Rattle.std.specs.Prelude.{ℕ, Bool, List}
use Rattle.hz_core.specs.Netlist.{Netlist, IsCircuit, IsWhole}
use Rattle.hz_net.specs.Network.{network_of}
use Rattle.hz_net.specs.Starts.{IsStableStart}
use Rattle.hz_desk.specs.Finding.{FindingOf}
use Rattle.hz_desk.specs.RightFinding.{IsRightFinding}

-- Every circuit has a right finding from every stable start, under every new input and every cap.
abbrev pub FindingsExist : Type 0
FindingsExist =
    (netlist : Netlist) (input start : List Bool) (cap : ℕ) → IsCircuit netlist → IsWhole netlist →
    IsStableStart netlist start →
    (finding : FindingOf) × IsRightFinding (network_of netlist) input start cap finding
