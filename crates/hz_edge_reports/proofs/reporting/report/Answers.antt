use Rattle.std.proofs.Common.{ℕ, Bool, List, refl}
use Rattle.hz_edge_reports.proofs.Words.{Status, AreAcceptedStarts}
use Rattle.hz_refusal.specs.declared.status.Status.TheVariants as status
use Rattle.hz_refusal.proofs.PutEndings.{Ends-put}
use Rattle.hz_edge_reports.specs.EdgeReports.{ReportsEdges}
use Rattle.hz_edge_reports.proofs.reporting.report.Goals as goal

pub returns : goal.returns
returns g c =
    let made = c.write_report-written.ensures in
    Ends-put g.K.Sink.output g.K.Sink.faults
    (λ (own : Status) (text : List ℕ). (starts : List (List Bool)) × AreAcceptedStarts c.args.net.now c.args.script.now.parts starts × ReportsEdges c.args.options c.args.net.now starts c.args.script.now own text)
    c.args.out.now c.write_report-written.new.out status.Done made.1 c.write_report-written.result c.status_after.result tt (made.0, made.2, (refl, made.3)) made.4 c.status_after.ensures
