-- The size of a network by the counts of its circuit, and its nodes.
use Rattle.std.proofs.Common.{◌≡◌, ℕ, ◌-◌, ◌≤◌, Bool, List, length, take, arith}
use Rattle.std.proofs.lemmas.List.{length-take-le}
use Rattle.hz_core.specs.Netlist.{Netlist, IsCircuit, pin_count, variable_count}
use Rattle.hz_net.specs.Network.{network_of}
use Rattle.hz_net.proofs.Places.{length-network_of}

-- gates and wires by the counts of inputs, nodes and variables
pub gates-counted : (netlist : Netlist) (inputs nodes : ℕ) → IsCircuit netlist → inputs ≡ netlist.inputs → nodes ≡ length netlist.names
    → nodes - inputs ≡ length netlist.gates
gates-counted netlist inputs nodes circuit of_inputs of_nodes = omega (arith, circuit.nodes)

pub wires-counted : (netlist : Netlist) (nodes variables : ℕ) → nodes ≡ length netlist.names → variables ≡ variable_count netlist
    → variables - nodes ≡ pin_count netlist
wires-counted netlist nodes variables of_nodes of_variables = omega arith

-- the nodes come first in a state
pub nodes-within : (netlist : Netlist) (start : List Bool) (nodes : ℕ) → IsCircuit netlist → length start ≡ length (network_of netlist)
    → nodes ≡ length netlist.names → nodes ≤ length start
nodes-within netlist start nodes circuit long of_nodes = omega (arith, length-network_of netlist circuit)

pub length-nodes : (netlist : Netlist) (start : List Bool) (nodes : ℕ) → IsCircuit netlist → length start ≡ length (network_of netlist)
    → nodes ≡ length netlist.names → length (take nodes start) ≡ nodes
length-nodes netlist start nodes circuit long of_nodes = length-take-le nodes start (nodes-within netlist start nodes circuit long of_nodes)
