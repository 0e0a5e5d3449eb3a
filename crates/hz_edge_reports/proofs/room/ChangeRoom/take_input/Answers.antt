-- There are no more inputs than variables.
use Rattle.std.proofs.Common.{◌≤◌, length, arith, sym, ap, ◌∙◌, Bool}
use Rattle.hz_edge_reports.proofs.Words.{length-take-le, length-network_of}
use Rattle.hz_edge_reports.proofs.room.ChangeRoom.take_input.Goals as goal
use Rattle.hz_edge_reports.proofs.room.ChangeRoom.take_input.Goals.{After-as_slice}

few : (c : After-as_slice) → c.len-inputs.result ≤ length c.as_slice.result.now
few c =
    omega (
      arith,
      ap (length {A = Bool}) c.as_slice.ensures.value,
      c.requires.room.start,
      c.requires.room.input,
      c.len-inputs.ensures,
      c.args.self.now.input.ok.0,
      length-network_of c.args.net.now c.keeps_shape.ensures.circuit,
      c.keeps_shape.ensures.circuit.nodes,
    )

pub slice_bounds-copy_from_slice-end : goal.slice_bounds-copy_from_slice-end
slice_bounds-copy_from_slice-end c = sym (length-take-le c.len-inputs.result c.as_slice.result.now (few c))

pub copy_from_slice-requires : goal.copy_from_slice-requires
copy_from_slice-requires c = sym c.len-inputs.ensures ∙ sym (length-take-le c.len-inputs.result c.as_slice.result.now (few c))
