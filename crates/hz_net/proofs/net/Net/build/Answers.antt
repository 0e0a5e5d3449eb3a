use Rattle.std.proofs.Common.{◌<◌, sym, ap, subst, length, All, arith}
use Rattle.hz_net.proofs.Parts.{comes-counted, comes-inside}
use Rattle.hz_net.proofs.net.Net.build.Goals as goal

pub list_fan_out-requires-clause-room : goal.list_fan_out-requires-clause-room
list_fan_out-requires-clause-room c =
    omega (
      arith,
      ap length c.as_slice.ensures.value,
      comes-counted c.args.circuit _ _ _ c.in_ok-parts.ensures.parts,
      c.nodes.ensures.nodes,
      c.in_ok-parts.ensures.circuit.variables,
    )

pub list_fan_out-requires-clause-sources : goal.list_fan_out-requires-clause-sources
list_fan_out-requires-clause-sources c =
    subst (λ nodes. All (λ source. source < nodes) c.as_slice.result.now) (sym c.nodes.ensures.nodes)
    (subst (All (λ source. source < length c.args.circuit.names)) (sym c.as_slice.ensures.value)
    (comes-inside c.args.circuit _ _ _ c.in_ok-parts.ensures.parts c.in_ok-parts.ensures.circuit))
