-- All that the writer was given.
use Rattle.std.proofs.Common.{◌++◌, ℕ, List, refl, subst, rules}
use Rattle.hz_edge_reports.proofs.Words.{Assumption, Writes, writes_then, ArePartAnalyses, parts_text}
use Rattle.std.specs.List.{flat_map}
use Rattle.hz_write.proofs.Writers.{wrote_whole}
use Rattle.hz_report.specs.Report.{netlist_line, feedback_line}
use Rattle.hz_edge_reports.proofs.reporting.write_report.Goals as goal

pub returns : goal.returns
returns g c =
    let making = c.args.making.now in
    let netlist = making.net.now in
    let options = c.args.options in
    let script = c.args.script.now in
    let made = c.write_parts.ensures.gave in
    let cycles = making.free.now.cycles in
    let are : ArePartAnalyses netlist options.cap script.assumptions made.0 script.parts made.1 =
    subst (λ (cap : ℕ). ArePartAnalyses netlist cap script.assumptions made.0 script.parts made.1) c.requires.cap
    (subst (λ (assumptions : List Assumption). ArePartAnalyses netlist making.cap assumptions made.0 script.parts made.1) c.requires.assumptions made.3) in
    let parts : Writes g.K.Sink.output g.K.Sink.faults (parts_text netlist options.show script.assumptions 1 made.0 script.parts made.1) c.write_feedback.new.writer c.write_parts.new.writer =
    subst (λ (assumptions : List Assumption). Writes g.K.Sink.output g.K.Sink.faults (parts_text netlist options.show assumptions 1 made.0 script.parts made.1) c.write_feedback.new.writer c.write_parts.new.writer) c.requires.assumptions made.4 in
    let lines = writes_then (writes_then c.write_netlist.ensures.gave c.write_feedback.ensures.gave refl) parts refl in
    let wrote = wrote_whole _ _ _ _ _ _ _ _ c.new-writer.ensures.begins lines c.finish.ensures in (
      made.0,
      netlist_line netlist ++ flat_map (feedback_line netlist) cycles ++ parts_text netlist options.show script.assumptions 1 made.0 script.parts made.1,
      made.2,
      record {
        cycles = cycles;
        are_cycles = c.requires.making.free.feedback.are_cycles;
        analyses = made.1;
        are_analyses = are;
        lines = refl;
      },
      search rules,
    )
