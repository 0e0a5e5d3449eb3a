use Rattle.std.proofs.Common.{inl, inr, refl, ap, ◌∙◌, Err, arith}
use Rattle.hz_outside.specs.declared.fault.Place.TheVariants.{Second}
use Rattle.hz_top.specs.Outcome.{IsSecondFileOutcome, observation_of}
use Rattle.hz_refusal.specs.Refused.{LoadPrints}
use Rattle.hz_timing.specs.TimedFault.{HasTimedFault}
use Rattle.hz_timing.specs.Timed.{OfTimed, IsToldTimedLine}
use Rattle.hz_refusal.proofs.PutEndings.{Ends-more}
use Rattle.hz_top.proofs.JobOutcomes.{FileRefused-load}
use Rattle.hz_top.proofs.ReachedLemmas.{of-file, no-text}
use Rattle.hz_top.proofs.order.work_on_timed.Goals as goal

pub returns-in-Ok-clause-ends : goal.returns-in-Ok-clause-ends
returns-in-Ok-clause-ends g c =
    let told = observation_of g.F.Files.held g.F.Files.faults g.F.Files.longs c.args.files.now c.load.new.self in
    let comes = OfTimed g.J.OnTimed.may_restart (g.J.OnTimed.judges c.args.job.now) c.args.net.now in
    Ends-more g.K.Sink.output g.K.Sink.faults (comes c.in-Ok.text.items) (IsSecondFileOutcome told comes c.args.second.now)
    c.args.out.now c.on_timed.new.out c.on_timed.result.status
    (λ own text says. inr (
      c.in-Ok.text.items,
      (c.in-Ok.ensures.bytes, omega (arith, c.in-Ok.text.ok, c.in-Ok.ensures.short)),
      says,
    )) (rw c.as_slice.ensures.value at c.on_timed.ensures.ends)

pub returns-in-Err-clause-ends : goal.returns-in-Err-clause-ends
returns-in-Err-clause-ends g c =
    let told = observation_of g.F.Files.held g.F.Files.faults g.F.Files.longs c.args.files.now c.load.new.self in
    let comes = OfTimed g.J.OnTimed.may_restart (g.J.OnTimed.judges c.args.job.now) c.args.net.now in
    rw c.without_line.ensures
    (Ends-more g.K.Sink.output g.K.Sink.faults (LoadPrints Second c.in-Err.fault) (IsSecondFileOutcome told comes c.args.second.now)
    c.args.out.now c.refuse_load.new.out c.refuse_load.result
    (λ own text says. inl (FileRefused-load told Second c.args.second.now c.in-Err.fault
    (λ is. c.load.ensures.failed (c.in-Err.is ∙ ap Err is)) (λ is. c.load.ensures.too_long (c.in-Err.is ∙ ap Err is))
    (λ is. c.load.ensures.over (c.in-Err.is ∙ ap Err is)) own text says)) c.refuse_load.ensures)

pub returns-in-Ok-clause-line : goal.returns-in-Ok-clause-line
returns-in-Ok-clause-line g c =
    inr (of-file (g.F.Files.held c.args.files.now) c.args.second.now c.in-Ok.text.items (λ bytes. IsToldTimedLine (HasTimedFault g.J.OnTimed.may_restart c.args.net.now bytes) c.on_timed.result.status c.on_timed.result.line)
    c.in-Ok.ensures.bytes (rw c.as_slice.ensures.value at c.on_timed.ensures.line))

pub returns-in-Err-clause-line : goal.returns-in-Err-clause-line
returns-in-Err-clause-line g c =
    rw c.without_line.ensures
    (inl (no-text g.K.Sink.output g.K.Sink.faults Second c.in-Err.fault c.args.out.now c.refuse_load.new.out c.refuse_load.result c.refuse_load.ensures, refl))
