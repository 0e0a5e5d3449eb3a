use Rattle.std.proofs.Common.{refl}
use Rattle.hz_refusal.specs.declared.status.Status.TheVariants as status
use Rattle.hz_refusal.specs.Refused.{TextPrints}
use Rattle.hz_refusal.specs.Refusal.{text_fault_line}
use Rattle.hz_refusal.proofs.PutEndings.{Ends-put}
use Rattle.hz_refusal.proofs.refusal.refuse_text.Goals as goal

pub returns-in_default-clause-ends : goal.returns-in_default-clause-ends
returns-in_default-clause-ends g c =
    Ends-put g.K.Sink.output g.K.Sink.faults (TextPrints c.args.called.now c.args.circuit.now c.args.fault) c.args.out.now c.put_text_fault.new.out status.Text (text_fault_line c.args.called.now c.args.circuit.now c.args.fault)
    c.put_text_fault.result c.status_after.result tt (c.in_default.not-Memory, (refl, refl)) c.put_text_fault.ensures c.status_after.ensures
