-- Words, with their arguments, in the order in which one needs them.
--
-- GateLine: the name of a gate, its kind, and the names that its pins read
-- pulse_lines, ring_lines n, multiplexer_lines i: the gates of the three parts
-- demo_gate_lines n: the gates of the circuit of a number
-- demo_netlist n: that circuit
-- demo_script n: the script of a number: a start, and the change in which `go` rises
-- DemoStarts: the start of every number is accepted
-- ring_netlist sources n, chain_netlist n count: the circuit as it is built, part by part
-- MayAddWiredGate netlist name kind sources: a gate may be added

pub mod Demo
pub mod BuiltDemo
pub mod Starts
