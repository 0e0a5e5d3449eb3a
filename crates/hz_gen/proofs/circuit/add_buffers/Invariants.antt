use Rattle.std.proofs.Common.{◌≡◌, ◌-◌, ◌∷◌, []}
use Rattle.hz_gen.specs.BuiltDemo.{ring_netlist}
use Rattle.hz_gen.proofs.circuit.add_buffers.Given as goal

-- the buffers so far are there
abbrev pub invariant-loop-number : goal.invariant-loop-number
invariant-loop-number l = l.circuit ≡ ring_netlist (3 ∷ []) (l.number - 2)
