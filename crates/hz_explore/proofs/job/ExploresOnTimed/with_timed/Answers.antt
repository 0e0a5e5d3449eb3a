-- The only start is accepted or refused.
use Rattle.std.proofs.Common.{◌<◌, inl, inr, refl, sym, subst, arith, Bool, List, [], ◌∷◌, Option, length}
use Rattle.std.proofs.lemmas.Option.{get_or_from_slice_get}
use Rattle.hz_pass.specs.Completed.{IsStartFault}
use Rattle.hz_script.specs.ScriptText.{IsScriptFor}
use Rattle.hz_script.specs.ScriptValue.{ScriptOf}
use Rattle.hz_timing.specs.Timed.{AreAcceptedStarts, FirstStartRefused, TimedStarted}
use Rattle.hz_explore.specs.ExploreReports.{ReportsExploring}
use Rattle.hz_refusal.specs.Refused.{StartPrints}
use Rattle.hz_refusal.proofs.PutEndings.{Ends-more}
use Rattle.hz_changes.proofs.AcceptedStarts.{ListsInputs-front, start-accepted}
use Rattle.hz_refusal.proofs.RefusedTexts.{start-refused}
use Rattle.hz_explore.proofs.OnlyParts.{only-part}
use Rattle.hz_explore.proofs.job.ExploresOnTimed.with_timed.Goals as goal

pub complete-requires-clause-listed : goal.complete-requires-clause-listed
complete-requires-clause-listed g c =
    let few : 0 < length c.args.script.now.parts = omega (arith, c.requires.one refl) in
    let is : IsScriptFor c.args.net.now c.part.result.now = subst (IsScriptFor c.args.net.now) (get_or_from_slice_get c.args.script.now.parts 0 c.part.result.now c.part.result.now c.part.ensures) (c.requires.script.parts 0 c.part.result.now few) in
    rw c.start.ensures.start is.nodes

pub complete-requires-clause-inputs : goal.complete-requires-clause-inputs
complete-requires-clause-inputs g c =
    let few : 0 < length c.args.script.now.parts = omega (arith, c.requires.one refl) in
    let is : IsScriptFor c.args.net.now c.part.result.now = subst (IsScriptFor c.args.net.now) (get_or_from_slice_get c.args.script.now.parts 0 c.part.result.now c.part.result.now c.part.ensures) (c.requires.script.parts 0 c.part.result.now few) in
    rw c.start.ensures.start (ListsInputs-front c.args.net.now c.part.result.now.start (omega (arith, c.requires.circuit.nodes, is.nodes)) is.inputs)

pub returns-in-Ok : goal.returns-in-Ok
returns-in-Ok g c =
    let netlist = c.args.net.now in
    let script = c.args.script.now in
    let options = c.args.self.now.options in
    let part = c.part.result.now in
    let start = c.as_slice.result.now in
    let accepted = start-accepted netlist c.start.result.now part.start c.in-Ok.start.items start c.start.ensures.start c.as_slice.ensures.value c.in-Ok.ensures.start in
    let only = only-part script.parts part (c.requires.one refl) c.part.ensures in
    let starts : AreAcceptedStarts netlist script.parts (start ∷ []) = subst (λ (parts : List ScriptOf). AreAcceptedStarts netlist parts (start ∷ [])) (sym only) (accepted, tt) in
    Ends-more g.K.Sink.output g.K.Sink.faults (ReportsExploring options netlist (start ∷ []) script) (TimedStarted (ReportsExploring options) netlist script) c.args.out.now c.report.new.out c.report.result
    (λ own text says. inr (start ∷ [], starts, says)) c.report.ensures

pub returns-in-Err : goal.returns-in-Err
returns-in-Err g c =
    let netlist = c.args.net.now in
    let script = c.args.script.now in
    let part = c.part.result.now in
    let why = subst (λ (listed : List (Option Bool)). IsStartFault netlist listed c.in-Err.fault) c.start.ensures.start c.in-Err.ensures.start in
    let only = only-part script.parts part (c.requires.one refl) c.part.ensures in
    Ends-more g.K.Sink.output g.K.Sink.faults (StartPrints netlist c.in-Err.fault) (TimedStarted (ReportsExploring c.args.self.now.options) netlist script) c.args.out.now c.refuse_start.new.out c.refuse_start.result
    (λ own text says.
    let refused = start-refused netlist part.start c.in-Err.fault why own text says in
    inl (refused.0, subst (λ (parts : List ScriptOf). FirstStartRefused netlist parts text) (sym only) (inl refused.1))) (rw c.circuit.ensures.same at c.refuse_start.ensures)
