-- A change is made, or the variable that stops it leaves the room as it is.
use Rattle.std.proofs.Common.{refl}
use Rattle.hz_changes.proofs.Writable.{below-names}
use Rattle.hz_edge_reports.specs.EdgeChanges.{Found, Stopped}
use Rattle.hz_edge_reports.proofs.reporting.write_next.Goals as goal

pub write_stopped-requires-clause-change : goal.write_stopped-requires-clause-change
write_stopped-requires-clause-change g c = below-names c.args.making.now.net.now c.args.change.now c.requires.making.circuit c.requires.change

pub returns-in-Some-clause-gave : goal.returns-in-Some-clause-gave
returns-in-Some-clause-gave g c = (Stopped c.in-Some.var, (c.in-Some.is, refl), c.write_stopped.ensures.gave)

pub returns-in-None-clause-gave : goal.returns-in-None-clause-gave
returns-in-None-clause-gave g c =
    let made = c.write_made.ensures.gave in
    (Found made.0, (c.in-None.is, made.1, made.2, made.3), made.4)
