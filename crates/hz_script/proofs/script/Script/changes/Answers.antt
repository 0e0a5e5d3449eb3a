use Rattle.std.proofs.Common.{arith}
use Rattle.hz_lists.proofs.PartLemmas.{length-parts_from}
use Rattle.hz_script.proofs.script.Script.changes.Goals as goal

pub returns-clause-changes : goal.returns-clause-changes
returns-clause-changes c =
    let inside = c.self.inside in
    let many = length-parts_from 0 inside.ends.items inside.assignments.items in
    rw (← c.self.view_is) (omega (arith, many, c.len.ensures, inside.ends.ok.0))
