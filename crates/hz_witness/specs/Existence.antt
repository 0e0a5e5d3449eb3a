-- Every change has a witness.
use Rattle.std.specs.Prelude.{ℕ, Bool, List}
use Rattle.hz_core.specs.declared.tri.Tri.{Tri}
use Rattle.hz_core.specs.Netlist.{Netlist, IsCircuit}
use Rattle.hz_net.specs.Network.{network_of}
use Rattle.hz_net.specs.Passes.{algorithm_a, algorithm_b, IsResult}
use Rattle.hz_net.specs.Starts.{IsStableStart}
use Rattle.hz_witness.specs.Witness.{IsWitness}

-- every stable start of a circuit has one under every input
abbrev pub WitnessesExist : Type 0
WitnessesExist =
    (netlist : Netlist) (input start : List Bool) (a b : List Tri) → IsCircuit netlist →
    IsStableStart netlist start → IsResult (algorithm_a (network_of netlist) input start) a →
    IsResult (algorithm_b (network_of netlist) input a) b →
    (steps : List (List ℕ)) × (counts : List ℕ)
    × IsWitness (network_of netlist) input start a b steps counts
