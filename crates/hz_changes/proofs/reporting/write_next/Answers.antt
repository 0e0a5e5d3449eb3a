-- What one change comes to fits its network, so that it can be written.
use Rattle.std.proofs.Common.{ℕ, Option, subst}
use Rattle.hz_changes.proofs.Words.{finding_of, Found, Stopped}
use Rattle.hz_changes.proofs.Writable.{below-names, fits, IsStopInside}
use Rattle.hz_changes.proofs.reporting.write_next.Goals as goal

pub write_change-requires-clause-change : goal.write_change-requires-clause-change
write_change-requires-clause-change g c = below-names c.args.plate.now.netlist c.args.change.now c.requires.circuit c.requires.change

pub write_change-requires-clause-rows : goal.write_change-requires-clause-rows
write_change-requires-clause-rows g c =
    (fits c.args.plate.now.netlist c.args.sequence.now.desk.netlist c.args.cap c.args.sequence.now.start c.args.change.now (finding_of c.in-Ok.finding.now) c.requires.net c.requires.circuit (c.requires.stable c.in-Ok.ensures.finding.0) c.in-Ok.ensures.finding.1).rows

pub write_change-requires-clause-input : goal.write_change-requires-clause-input
write_change-requires-clause-input g c =
    (fits c.args.plate.now.netlist c.args.sequence.now.desk.netlist c.args.cap c.args.sequence.now.start c.args.change.now (finding_of c.in-Ok.finding.now) c.requires.net c.requires.circuit (c.requires.stable c.in-Ok.ensures.finding.0) c.in-Ok.ensures.finding.1).input

pub write_change-requires-clause-spread : goal.write_change-requires-clause-spread
write_change-requires-clause-spread g c =
    (fits c.args.plate.now.netlist c.args.sequence.now.desk.netlist c.args.cap c.args.sequence.now.start c.args.change.now (finding_of c.in-Ok.finding.now) c.requires.net c.requires.circuit (c.requires.stable c.in-Ok.ensures.finding.0) c.in-Ok.ensures.finding.1).spread

pub write_change-requires-clause-settle : goal.write_change-requires-clause-settle
write_change-requires-clause-settle g c =
    (fits c.args.plate.now.netlist c.args.sequence.now.desk.netlist c.args.cap c.args.sequence.now.start c.args.change.now (finding_of c.in-Ok.finding.now) c.requires.net c.requires.circuit (c.requires.stable c.in-Ok.ensures.finding.0) c.in-Ok.ensures.finding.1).settle

pub write_change-requires-clause-cycle : goal.write_change-requires-clause-cycle
write_change-requires-clause-cycle g c =
    (fits c.args.plate.now.netlist c.args.sequence.now.desk.netlist c.args.cap c.args.sequence.now.start c.args.change.now (finding_of c.in-Ok.finding.now) c.requires.net c.requires.circuit (c.requires.stable c.in-Ok.ensures.finding.0) c.in-Ok.ensures.finding.1).cycle

pub write_stopped-requires-clause-change : goal.write_stopped-requires-clause-change
write_stopped-requires-clause-change g c = rw c.net.ensures (below-names c.args.plate.now.netlist c.args.change.now c.requires.circuit c.requires.change)

pub write_stopped-requires-clause-var : goal.write_stopped-requires-clause-var
write_stopped-requires-clause-var g c = rw c.net.ensures (subst (λ (stopped : Option ℕ). IsStopInside c.args.plate.now.netlist stopped) c.in-Err.ensures.finding c.requires.inside)

pub returns-in-Ok-clause-gave : goal.returns-in-Ok-clause-gave
returns-in-Ok-clause-gave g c =
    (Found (finding_of c.in-Ok.finding.now), (c.in-Ok.ensures.finding.0, c.in-Ok.ensures.finding.1, rw c.in-Ok.is at c.next.follows.holds-at-none), c.write_change.ensures.gave)

pub returns-in-Err-clause-gave : goal.returns-in-Err-clause-gave
returns-in-Err-clause-gave g c =
    (Stopped c.in-Err.stopped.var, (c.in-Err.ensures.finding, rw c.in-Err.is at c.next.follows.holds-at-none), rw c.net.ensures at c.write_stopped.ensures.gave)
