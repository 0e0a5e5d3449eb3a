use Rattle.hz_plane.proofs.faults.note_all.Goals as goal

pub returns : goal.returns
returns c lane inside = record { first = _; among_nodes = c.note_open-noted.ensures.lanes lane inside; among_gates = c.note_unstable.ensures lane inside }
