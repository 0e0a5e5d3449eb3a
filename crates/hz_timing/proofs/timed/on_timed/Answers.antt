-- The text has a fault, or the job does its part with the script.
use Rattle.std.proofs.Common.{inl, inr, refl}
use Rattle.hz_refusal.proofs.PutEndings.{Ends-more}
use Rattle.hz_timing.specs.TimedFault.{HasTimedFault}
use Rattle.hz_timing.specs.Timed.{OfTimed, TimedPrints}
use Rattle.hz_timing.proofs.TimedLaws.{told-timed-line, timed-refused, timed-node}
use Rattle.hz_timing.proofs.timed.on_timed.Goals as goal

pub returns-in-Ok-clause-ends : goal.returns-in-Ok-clause-ends
returns-in-Ok-clause-ends g c =
    let judges = g.J.OnTimed.judges c.args.job.now in
    Ends-more g.K.Sink.output g.K.Sink.faults (judges c.args.net.now c.in-Ok.script) (OfTimed g.J.OnTimed.may_restart judges c.args.net.now c.args.text.now) c.args.out.now c.with_timed.new.out c.with_timed.result
    (λ own text says. inr (c.in-Ok.script, rw c.restarts.ensures at c.in-Ok.ensures.faultless, c.in-Ok.ensures.value, says)) c.with_timed.ensures

pub refuse_timed-requires : goal.refuse_timed-requires
refuse_timed-requires g c =
    rw c.circuit.ensures.same (timed-node g.J.OnTimed.may_restart c.args.net.now c.args.text.now c.in-Err.fault c.circuit.ensures.circuit (rw c.restarts.ensures at c.in-Err.ensures.fault))

pub returns-in-Err-clause-ends : goal.returns-in-Err-clause-ends
returns-in-Err-clause-ends g c =
    let judges = g.J.OnTimed.judges c.args.job.now in
    Ends-more g.K.Sink.output g.K.Sink.faults (TimedPrints c.args.net.now c.in-Err.fault) (OfTimed g.J.OnTimed.may_restart judges c.args.net.now c.args.text.now) c.args.out.now c.refuse_timed.new.out c.refuse_timed.result
    (λ own text says. inl (c.in-Err.fault, timed-refused g.J.OnTimed.may_restart c.args.net.now c.args.text.now c.in-Err.fault (rw c.restarts.ensures at c.in-Err.ensures.fault) says.0, says.1)) (rw c.circuit.ensures.same at c.refuse_timed.ensures.ends)

pub returns-in-Ok-clause-line : goal.returns-in-Ok-clause-line
returns-in-Ok-clause-line g c = inr (inl (rw c.restarts.ensures at c.in-Ok.ensures.faultless), refl)

pub returns-in-Err-clause-line : goal.returns-in-Err-clause-line
returns-in-Err-clause-line g c =
    told-timed-line (HasTimedFault g.J.OnTimed.may_restart c.args.net.now c.args.text.now) c.in-Err.fault c.refuse_timed.result c.line.result (rw c.restarts.ensures at c.in-Err.ensures.fault) c.refuse_timed.ensures.memory c.line.ensures
