-- The finding is right, and what is found of it is written.
use Rattle.std.proofs.Common.{◌≡◌, map, refl, ap, subst}
use Rattle.hz_changes.proofs.Words.{network_of, Row, finding_of, values_b, SplitsChange, found_in, Ends-put}
use Rattle.hz_split.specs.Splits.{SplitOf, AreSettledRuns}
use Rattle.hz_changes.specs.Splits.{split_text}
use Rattle.hz_refusal.specs.declared.status.Status.TheVariants as status
use Rattle.hz_changes.proofs.SplitLines.{contains-unknown}
use Rattle.hz_changes.proofs.SplitRuns.{is-split, settled-inside}
use Rattle.hz_changes.proofs.splitting.split_change.Goals as goal

pub search-outcome-requires-clause-unsettled : goal.search-outcome-requires-clause-unsettled
search-outcome-requires-clause-unsettled g c = contains-unknown (values_b c.args.change.now.finding.now.rows) c.requires.unsettled

pub write_split-written-requires-clause-found : goal.write_split-written-requires-clause-found
write_split-written-requires-clause-found g c =
    let same : c.in-Ok.split.netlist ≡ c.args.change.now.net.now = ap (λ (s : SplitOf). s.netlist) c.in-Ok.ensures in
    let runs = rw same at c.search-outcome.ensures.runs in
    settled-inside (network_of c.args.change.now.net.now) c.args.change.now.finding.now.input c.starts.result.now c.search-outcome.new.self.found runs.each

pub returns : goal.returns
returns g c =
    let netlist = c.args.change.now.net.now in
    let finding = finding_of c.args.change.now.finding.now in
    let start = map (λ (row : Row). row.start) c.args.change.now.finding.now.rows in
    let same : c.in-Ok.split.netlist ≡ netlist = ap (λ (s : SplitOf). s.netlist) c.in-Ok.ensures in
    let found : c.search-outcome.new.self.found ≡ found_in netlist finding = rw (same, c.starts.ensures) at c.search-outcome.ensures.found in
    let runs : AreSettledRuns (network_of netlist) c.args.change.now.finding.now.input start c.search-outcome.new.self.found = rw (same, c.starts.ensures) at c.search-outcome.ensures.runs in
    let is = is-split c.printed_runs_are_read.ensures netlist finding c.requires.circuit c.requires.start c.requires.input
    (subst (AreSettledRuns (network_of netlist) c.args.change.now.finding.now.input start) found runs) in
    Ends-put g.K.Sink.output g.K.Sink.faults (SplitsChange netlist c.args.change.now.number finding) c.args.out.now c.write_split-written.new.out status.Done
    (split_text netlist c.args.change.now.number finding (found_in netlist finding)) c.write_split-written.result c.status_after.result tt (refl, is, refl)
    (rw found at c.write_split-written.ensures) c.status_after.ensures
