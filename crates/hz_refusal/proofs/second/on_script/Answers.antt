-- The text has a fault, or the job does its part with the script.
use Rattle.std.proofs.Common.{inl, inr, refl, codes, subst, sym}
use Rattle.hz_core.specs.Netlist.{IsCircuit}
use Rattle.hz_script.specs.ScriptFault.{HasScriptFault}
use Rattle.hz_refusal.specs.Second.{OfScript}
use Rattle.hz_refusal.specs.Refused.{TextPrints}
use Rattle.hz_refusal.proofs.PutEndings.{Ends-more}
use Rattle.hz_refusal.proofs.RefusedTexts.{text-refused, told-line}
use Rattle.hz_refusal.proofs.NamedNodes.{script-node}
use Rattle.hz_refusal.proofs.second.on_script.Goals as goal

pub returns-in-Ok-clause-ends : goal.returns-in-Ok-clause-ends
returns-in-Ok-clause-ends g c =
    let judges = g.J.OnScript.judges c.args.job.now in
    Ends-more g.K.Sink.output g.K.Sink.faults (judges c.args.net.now c.in-Ok.script) (OfScript judges c.args.net.now c.args.text.now) c.args.out.now c.with_script.new.out c.with_script.result
    (λ own text says. inr (c.in-Ok.script, rw c.circuit-circuit.ensures.same at c.in-Ok.ensures.faultless, rw c.circuit-circuit.ensures.same at c.in-Ok.ensures.value, says)) c.with_script.ensures

pub refuse_text-requires : goal.refuse_text-requires
refuse_text-requires g c =
    script-node c.circuit-circuit.result.now c.args.text.now c.in-Err.fault (subst IsCircuit (sym c.circuit-circuit.ensures.same) c.circuit-circuit.ensures.circuit) c.in-Err.ensures.fault

pub returns-in-Err-clause-ends : goal.returns-in-Err-clause-ends
returns-in-Err-clause-ends g c =
    let judges = g.J.OnScript.judges c.args.job.now in
    Ends-more g.K.Sink.output g.K.Sink.faults (TextPrints (codes "script") c.args.net.now c.in-Err.fault) (OfScript judges c.args.net.now c.args.text.now) c.args.out.now c.refuse_text.new.out c.refuse_text.result
    (λ own text says. inl (c.in-Err.fault, text-refused (HasScriptFault c.args.net.now c.args.text.now) c.in-Err.fault (rw c.circuit-circuit.ensures.same at c.in-Err.ensures.fault) says.0, says.1)) (rw c.circuit-circuit.ensures.same at c.refuse_text.ensures.ends)

pub returns-in-Ok-clause-line : goal.returns-in-Ok-clause-line
returns-in-Ok-clause-line g c = inr (inl (rw c.circuit-circuit.ensures.same at c.in-Ok.ensures.faultless), refl)

pub returns-in-Err-clause-line : goal.returns-in-Err-clause-line
returns-in-Err-clause-line g c =
    told-line (HasScriptFault c.args.net.now c.args.text.now) c.in-Err.fault c.refuse_text.result c.line.result (rw c.circuit-circuit.ensures.same at c.in-Err.ensures.fault) c.refuse_text.ensures.memory c.line.ensures
