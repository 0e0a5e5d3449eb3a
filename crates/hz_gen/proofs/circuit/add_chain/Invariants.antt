use Rattle.std.proofs.Common.{◌≡◌, ◌-◌}
use Rattle.hz_gen.specs.BuiltDemo.{chain_netlist, last_gate}
use Rattle.hz_gen.proofs.circuit.add_chain.Given as goal

-- the multiplexers so far are there, and the next one reads the last of them
abbrev pub invariant-loop-number : goal.invariant-loop-number
invariant-loop-number l = record {
  so_far : l.circuit ≡ chain_netlist l.n (l.number - 1);
  last : l.before ≡ last_gate l.n (l.number - 1);
}
