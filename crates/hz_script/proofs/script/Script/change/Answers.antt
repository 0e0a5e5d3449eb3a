use Rattle.std.proofs.Common.{arith}
use Rattle.hz_lists.proofs.PartLemmas.{length-parts_from}
use Rattle.hz_script.proofs.script.Script.change.Goals as goal

pub part_at-requires-clause-number : goal.part_at-requires-clause-number
part_at-requires-clause-number c =
    let inside = c.self.inside in
    let many = length-parts_from 0 inside.ends.items inside.assignments.items in
    let within = rw (← c.self.view_is) at c.requires in
    rw c.as_slice-2.ensures.value (omega (arith, many, within))
