-- The report is that of the script's bursts.
use Rattle.std.proofs.Common.{ℕ, List, [], ◌∷◌, ◌++◌, refl, sym}
use Rattle.hz_refusal.specs.declared.status.Status.TheVariants as status
use Rattle.hz_refusal.proofs.PutEndings.{Ends-put}
use Rattle.hz_report.specs.Report.{head_text}
use Rattle.hz_explore.specs.ExploreText.{exploration_text}
use Rattle.hz_explore.specs.ExploreReports.{IsExploreReport, ReportsExploring}
use Rattle.hz_explore.proofs.OnlyParts.{only-part}
use Rattle.hz_explore.proofs.exploring.report.Goals as goal

pub returns : goal.returns
returns g c =
    let netlist = c.args.net.now in
    let options = c.args.options in
    let start = c.args.start.now in
    let script = c.args.script.now in
    let made = c.write_report-written.ensures in
    let text : List ℕ = head_text netlist made.0 start ++ exploration_text netlist script.assumptions made.1 in
    let report : IsExploreReport options netlist (start ∷ []) script text = record {
      start = start;
      only_start = refl;
      part = c.part.result.now;
      only_part = only-part script.parts c.part.result.now c.requires.one c.part.ensures;
      cycles = made.0;
      are_cycles = made.2;
      explored = made.1;
      is_exploration = rw (sym c.in-Ok-new.ensures.bursts, sym c.assumptions.ensures) made.3;
      lines = refl;
    } in
    Ends-put g.K.Sink.output g.K.Sink.faults (ReportsExploring options netlist (start ∷ []) script) c.args.out.now c.write_report-written.new.out status.Done text c.write_report-written.result c.status_after.result tt (refl, report) (rw c.assumptions.ensures at made.4)
    c.status_after.ensures
