use Rattle.std.proofs.Common.{refl, subst, sym}
use Rattle.hz_pass.specs.declared.completed_start.StartFault.{StartFault}
use Rattle.hz_pass.specs.declared.completed_start.StartFault.TheVariants.{Open, Unstable}
use Rattle.hz_refusal.specs.declared.status.Status.TheVariants as status
use Rattle.hz_refusal.specs.Ends.{Ends}
use Rattle.hz_refusal.specs.Refused.{StartPrints}
use Rattle.hz_refusal.specs.Refusal.{open_line, unstable_line}
use Rattle.hz_refusal.proofs.PutEndings.{Ends-put}
use Rattle.hz_refusal.proofs.refusal.refuse_start.Goals as goal

pub returns-in-Open : goal.returns-in-Open
returns-in-Open g c =
    subst (λ (fault : StartFault). Ends g.K.Sink.output g.K.Sink.faults (StartPrints c.args.circuit.now fault) c.args.out.now c.put_open.new.out c.status_after.result) (sym c.in-Open.is)
    (Ends-put g.K.Sink.output g.K.Sink.faults (StartPrints c.args.circuit.now (Open c.in-Open.gate)) c.args.out.now c.put_open.new.out status.Start (open_line c.args.circuit.now c.in-Open.gate)
    c.put_open.result c.status_after.result tt (refl, refl) c.put_open.ensures c.status_after.ensures)

pub returns-in-Unstable : goal.returns-in-Unstable
returns-in-Unstable g c =
    subst (λ (fault : StartFault). Ends g.K.Sink.output g.K.Sink.faults (StartPrints c.args.circuit.now fault) c.args.out.now c.put_unstable.new.out c.status_after-in-Unstable.result) (sym c.in-Unstable.is)
    (Ends-put g.K.Sink.output g.K.Sink.faults (StartPrints c.args.circuit.now (Unstable c.in-Unstable.gate)) c.args.out.now c.put_unstable.new.out status.Start (unstable_line c.args.circuit.now c.in-Unstable.gate)
    c.put_unstable.result c.status_after-in-Unstable.result tt (refl, refl) c.put_unstable.ensures c.status_after-in-Unstable.ensures)
