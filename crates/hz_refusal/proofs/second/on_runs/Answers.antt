-- The text has a fault, or the job does its part with the runs.
use Rattle.std.proofs.Common.{inl, inr, refl, codes}
use Rattle.hz_run_text.specs.RunFault.{HasRunFault}
use Rattle.hz_refusal.specs.Second.{OfRuns}
use Rattle.hz_refusal.specs.Refused.{TextPrints}
use Rattle.hz_refusal.proofs.PutEndings.{Ends-more}
use Rattle.hz_refusal.proofs.RefusedTexts.{text-refused, told-line}
use Rattle.hz_refusal.proofs.NamedNodes.{runs-node}
use Rattle.hz_refusal.proofs.second.on_runs.Goals as goal

pub returns-in-Ok-clause-ends : goal.returns-in-Ok-clause-ends
returns-in-Ok-clause-ends g c =
    let judges = g.J.OnRuns.judges c.args.job.now in
    Ends-more g.K.Sink.output g.K.Sink.faults (judges c.args.net.now c.in-Ok.runs) (OfRuns judges c.args.net.now c.args.text.now) c.args.out.now c.with_runs.new.out c.with_runs.result
    (λ own text says. inr (c.in-Ok.runs, c.in-Ok.ensures.faultless, c.in-Ok.ensures.value, says)) c.with_runs.ensures

pub refuse_text-requires : goal.refuse_text-requires
refuse_text-requires g c =
    rw c.circuit.ensures.same (runs-node c.args.net.now c.args.text.now c.in-Err.fault c.circuit.ensures.circuit c.in-Err.ensures.fault)

pub returns-in-Err-clause-ends : goal.returns-in-Err-clause-ends
returns-in-Err-clause-ends g c =
    let judges = g.J.OnRuns.judges c.args.job.now in
    Ends-more g.K.Sink.output g.K.Sink.faults (TextPrints (codes "runs") c.args.net.now c.in-Err.fault) (OfRuns judges c.args.net.now c.args.text.now) c.args.out.now c.refuse_text.new.out c.refuse_text.result
    (λ own text says. inl (c.in-Err.fault, text-refused (HasRunFault c.args.net.now c.args.text.now) c.in-Err.fault c.in-Err.ensures.fault says.0, says.1)) (rw c.circuit.ensures.same at c.refuse_text.ensures.ends)

pub returns-in-Ok-clause-line : goal.returns-in-Ok-clause-line
returns-in-Ok-clause-line g c = inr (inl c.in-Ok.ensures.faultless, refl)

pub returns-in-Err-clause-line : goal.returns-in-Err-clause-line
returns-in-Err-clause-line g c =
    told-line (HasRunFault c.args.net.now c.args.text.now) c.in-Err.fault c.refuse_text.result c.line.result c.in-Err.ensures.fault c.refuse_text.ensures.memory c.line.ensures
