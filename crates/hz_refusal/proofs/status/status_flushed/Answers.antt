-- An output that failed before is told, whatever the flush answers.
use Rattle.std.proofs.Common.{◌≡◌, ◌≢◌, ◌∙◌, sym, ap, refl, Result, Ok, Err}
use Rattle.hz_outside.specs.declared.fault.PutFault.{PutFault}
use Rattle.hz_outside.specs.declared.fault.PutFault.TheVariants as fault
use Rattle.hz_refusal.specs.declared.status.Status.{Status}
use Rattle.hz_refusal.specs.declared.status.Status.TheVariants as status
use Rattle.hz_refusal.specs.Ending.{status_after, status_flushed}
use Rattle.hz_refusal.proofs.status.status_flushed.Goals as goal

sink-stays : (flush : Result (Unit {0}) PutFault) → status.Sink ≡ status_flushed flush status.Sink
sink-stays (Ok done) = refl
sink-stays (Err fault.Failed) = refl
sink-stays (Err fault.Memory) = refl

others-change : (flush : Result (Unit {0}) PutFault) (own : Status) → own ≢ status.Sink → status_after flush own ≡ status_flushed flush own
others-change (Ok done) own other = refl
others-change (Err fault.Failed) own other = refl
others-change (Err fault.Memory) status.Sink other = absurd (other refl)
others-change (Err fault.Memory) own other = refl

pub returns-in-Sink : goal.returns-in-Sink
returns-in-Sink c = sink-stays c.args.flush ∙ ap (status_flushed c.args.flush) (sym c.in-Sink.is)

pub returns-in_default : goal.returns-in_default
returns-in_default c = c.status_after.ensures ∙ others-change c.args.flush c.args.status c.in_default.not-Sink
