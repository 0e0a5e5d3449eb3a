-- All that the writer was given.
use Rattle.std.proofs.Common.{◌≡◌, ◌∙◌, ◌++◌, List, Bool, refl, ap, subst, rules}
use Rattle.hz_changes.proofs.Words.{Netlist, network_of, writes_then, wrote_whole, AreAnalyses, analyses_text}
use Rattle.hz_free.specs.Feedback.{AreFeedbackCycles}
use Rattle.hz_desk.specs.Desk.{DeskOf}
use Rattle.hz_report.specs.Report.{head_text}
use Rattle.hz_changes.proofs.FindingsReplay.{analyses-replay}
use Rattle.hz_changes.proofs.reporting.write_report.Goals as goal

pub returns : goal.returns
returns g c =
    let netlist = c.args.plate.now.netlist in
    let changes = c.args.script.now.changes in
    let made = c.write_changes.ensures.gave in
    let cycles = c.free.result.now.cycles in
    let same : c.desk.result.now.netlist ≡ netlist = ap (λ (desk : DeskOf). desk.netlist) c.desk.ensures ∙ c.requires.net in
    let are : AreAnalyses netlist c.args.options.cap c.args.start.now changes made.0 =
    subst (λ (start : List Bool). AreAnalyses netlist c.args.options.cap start changes made.0) c.requires.begins made.1 in
    let lines = rw c.requires.show at (writes_then (rw c.net.ensures at c.write_head.ensures.gave) made.2 refl) in
    let wrote = wrote_whole _ _ _ _ _ _ _ _ c.new-writer.ensures.begins lines c.finish.ensures in (
      head_text netlist cycles c.args.start.now ++ analyses_text netlist c.args.options.show 1 changes made.0,
      record {
        cycles = cycles;
        are_cycles = subst (λ (n : Netlist). AreFeedbackCycles (network_of n) cycles) same c.free.ensures.feedback.are_cycles;
        analyses = made.0;
        are_analyses = are;
        replay = analyses-replay c.printed_runs_are_read.ensures c.run_counts.ensures.steps netlist c.args.options.cap changes c.args.start.now made.0 c.requires.circuit c.requires.start are;
        lines = refl;
      },
      search rules,
    )
