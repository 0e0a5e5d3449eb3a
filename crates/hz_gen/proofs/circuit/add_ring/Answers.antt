use Rattle.std.proofs.Common.{◌≡◌, ◌-◌, ◌∷◌, [], ap, length, arith}
use Rattle.hz_core.specs.Netlist.{variable_count}
use Rattle.hz_gen.specs.BuiltDemo.{ring_names, ring_netlist}
use Rattle.hz_gen.proofs.Counts.{count-ring, length-ring_names}
use Rattle.hz_gen.proofs.circuit.add_ring.Goals as goal

pub connect-requires-clause-source : goal.connect-requires-clause-source
connect-requires-clause-source c =
    let names : length c.add_buffers.new.circuit.names ≡ length (ring_names (c.args.n - 1)) =
    ap (λ netlist. length netlist.names) c.in_ok-add_buffers.ensures in
    omega (arith, names, length-ring_names (c.args.n - 1), c.requires.number.least)

pub connect-requires-clause-room : goal.connect-requires-clause-room
connect-requires-clause-room c =
    let count : variable_count c.add_buffers.new.circuit ≡ variable_count (ring_netlist (3 ∷ []) (c.args.n - 1)) =
    ap variable_count c.in_ok-add_buffers.ensures in
    omega (arith, count, count-ring (3 ∷ []) (c.args.n - 1), c.requires.number.most)
