-- The one change of a script, from its start.
use Rattle.std.proofs.Common.{◌≡◌, ◌∙◌, ℕ, Bool, List, [], ◌∷◌, ◌<◌, get_or, ap, refl, sym, subst, arith}
use Rattle.hz_changes.proofs.Words.{get_or_from_slice_get, Netlist, IsChange, finding_of, SequenceState, Found, AreAnalyses, Ends-put}
use Rattle.hz_report.specs.Report.{summary_text}
use Rattle.hz_refusal.specs.declared.status.Status.TheVariants as status
use Rattle.hz_changes.specs.Demos.{IsSummaryOutcome}
use Rattle.hz_changes.proofs.OneChangeScripts.{one-change, only-change}
use Rattle.hz_changes.proofs.generated.summarise.Goals as goal

pub next-requires-clause-inputs : goal.next-requires-clause-inputs
next-requires-clause-inputs g c =
    let is = get_or_from_slice_get c.args.script.now.changes 0 c.change.result.now [] c.change.ensures.change in
    let below = (subst (IsChange c.args.net.now.inputs) is (c.requires.script.changes 0 [] (omega (arith, c.requires.one)))).below in
    let same : c.in-Ok-new.sequence.desk.netlist ≡ c.args.net.now = ap (λ (s : SequenceState). s.desk.netlist) c.in-Ok-new.ensures ∙ c.in-Ok.ensures in
    λ k d few. subst (λ (n : Netlist). (get_or c.change.result.now k d).0 < n.inputs) (sym same) (below k d few)

pub returns : goal.returns
returns g c =
    let netlist = c.args.net.now in
    let finding = finding_of c.in-Ok-next.finding.now in
    let same : c.in-Ok-new.sequence.desk.netlist ≡ c.args.net.now = ap (λ (s : SequenceState). s.desk.netlist) c.in-Ok-new.ensures ∙ c.in-Ok.ensures in
    let begins : c.in-Ok-new.sequence.start ≡ c.args.start.now = ap (λ (s : SequenceState). s.start) c.in-Ok-new.ensures in
    let only = only-change c.args.script.now.changes c.change.result.now c.requires.one c.change.ensures.change in
    let are : AreAnalyses netlist c.args.cap c.args.start.now c.args.script.now.changes (Found finding ∷ []) =
    subst (λ (list : List (List (ℕ × Bool))). AreAnalyses netlist c.args.cap c.args.start.now list (Found finding ∷ [])) (sym only)
    (one-change netlist c.args.cap c.in-Ok-new.sequence c.args.start.now c.change.result.now finding same begins c.requires.start c.requires.circuit
    c.in-Ok-next.ensures.finding.0 c.in-Ok-next.ensures.finding.1 _ (rw c.in-Ok-next.is at c.next.follows.holds-at-none)) in
    Ends-put g.K.Sink.output g.K.Sink.faults (IsSummaryOutcome netlist c.args.cap c.args.start.now c.args.script.now.changes) c.args.out.now c.put_summary.new.out status.Done (summary_text netlist finding)
    c.put_summary.result c.status_after.result tt (refl, (finding, are, refl)) c.put_summary.ensures c.status_after.ensures
