-- What there is for every change.
use Rattle.std.specs.Prelude.{ℕ, ◌≤◌, Bool, List}
use Rattle.hz_core.specs.declared.tri.Tri.{Tri}
use Rattle.hz_core.specs.Netlist.{Netlist, IsCircuit, IsWhole}
use Rattle.hz_net.specs.Network.{network_of}
use Rattle.hz_net.specs.Passes.{algorithm_a, algorithm_b, IsResult}
use Rattle.hz_net.specs.Starts.{IsStableStart}
use Rattle.hz_word.specs.Capped.{greatest_cap}
use Rattle.hz_edges.specs.Edges.{EdgesOf, AreEdgesOfChange}

-- Beside the results of both algorithms there are right edges, for every change from every stable start.
abbrev pub EdgesExist : Type 0
EdgesExist =
    (netlist : Netlist) (input start : List Bool) (cap : ℕ) (a b : List Tri) → IsCircuit netlist →
    IsWhole netlist → IsStableStart netlist start → 1 ≤ cap → cap ≤ greatest_cap →
    IsResult (algorithm_a (network_of netlist) input start) a →
    IsResult (algorithm_b (network_of netlist) input a) b →
    (edges : EdgesOf) × AreEdgesOfChange (network_of netlist) cap input start a b edges
