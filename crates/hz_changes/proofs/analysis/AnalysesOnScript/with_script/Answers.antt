use Rattle.std.proofs.Common.{inl, inr, arith, List, Option, Bool, subst}
use Rattle.hz_changes.proofs.Words.{IsStartFault, StartPrints, Ends-more}
use Rattle.hz_changes.specs.Reports.{Reports}
use Rattle.hz_refusal.specs.Second.{Started}
use Rattle.hz_changes.proofs.AcceptedStarts.{ListsInputs-front, start-accepted}
use Rattle.hz_refusal.proofs.RefusedTexts.{start-refused}
use Rattle.hz_changes.proofs.analysis.AnalysesOnScript.with_script.Goals as goal

pub complete-requires-clause-inputs : goal.complete-requires-clause-inputs
complete-requires-clause-inputs g c =
    rw c.start.ensures.start (ListsInputs-front c.args.net.now c.args.script.now.start (omega (arith, c.requires.circuit.nodes, c.requires.script.nodes)) c.requires.script.inputs)

pub returns-in-Ok : goal.returns-in-Ok
returns-in-Ok g c =
    let accepted = start-accepted c.args.net.now c.start.result.now c.args.script.now.start c.in-Ok.start.items c.as_slice.result.now c.start.ensures.start c.as_slice.ensures.value c.in-Ok.ensures.start in
    Ends-more g.K.Sink.output g.K.Sink.faults (Reports c.args.self.now.options c.args.net.now c.as_slice.result.now c.args.script.now.changes) (Started (Reports c.args.self.now.options) c.args.net.now c.args.script.now) c.args.out.now c.report.new.out c.report.result
    (λ own text says. inr (c.as_slice.result.now, accepted, says)) c.report.ensures

pub returns-in-Err : goal.returns-in-Err
returns-in-Err g c =
    let why = subst (λ (listed : List (Option Bool)). IsStartFault c.args.net.now listed c.in-Err.fault) c.start.ensures.start c.in-Err.ensures.start in
    Ends-more g.K.Sink.output g.K.Sink.faults (StartPrints c.args.net.now c.in-Err.fault) (Started (Reports c.args.self.now.options) c.args.net.now c.args.script.now) c.args.out.now c.refuse_start.new.out c.refuse_start.result
    (λ own text says. inl (start-refused c.args.net.now c.args.script.now.start c.in-Err.fault why own text says)) (rw c.circuit.ensures.same at c.refuse_start.ensures)
