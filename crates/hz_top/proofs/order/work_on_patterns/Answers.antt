use Rattle.std.proofs.Common.{◌≡◌, ◌∙◌, ◌++◌, inl, inr, refl, ap, subst, Err, arith, length, List, [], ℕ}
use Rattle.std.specs.Prelude.{IfSome}
use Rattle.hz_outside.specs.declared.fault.Place.TheVariants.{Second}
use Rattle.hz_pattern_text.specs.PatternReading.{PatternsReceived}
use Rattle.hz_top.specs.Outcome.{IsSecondFileOutcome, observation_of}
use Rattle.hz_refusal.specs.Refused.{LoadPrints}
use Rattle.hz_pattern_text.specs.PatternFault.{HasPatternFault}
use Rattle.hz_refusal.specs.Second.{OfPatterns, IsToldLine}
use Rattle.hz_refusal.proofs.PutEndings.{Ends-more}
use Rattle.hz_top.proofs.JobOutcomes.{FileRefused-load}
use Rattle.hz_top.proofs.ReachedLemmas.{of-file, no-text}
use Rattle.hz_top.proofs.order.work_on_patterns.Goals as goal

pub on_patterns-requires : goal.on_patterns-requires
on_patterns-requires g c =
    let none : c.in-Ok.reader.received ≡ [] = ap (λ (all : PatternsReceived). all.received) c.in-Ok.ensures in
    record {
      netlist = c.load_into.ensures.fixed ∙ ap (λ (all : PatternsReceived). all.netlist) c.in-Ok.ensures ∙ c.circuit.ensures.same;
      long = omega (arith, c.in-Ok-load_into.ensures.short, ap length none);
    }

pub returns-in-Ok-load_into-clause-ends : goal.returns-in-Ok-load_into-clause-ends
returns-in-Ok-load_into-clause-ends g c =
    let held = g.F.Files.held in
    let told = observation_of held g.F.Files.faults g.F.Files.longs c.args.files.now c.load_into.new.self in
    let comes = OfPatterns (g.J.OnPatterns.judges c.args.job.now) c.args.net.now in
    let none : c.in-Ok.reader.received ≡ [] = ap (λ (all : PatternsReceived). all.received) c.in-Ok.ensures in
    let bytes = c.load_into.new.receiver.received in
    let P : List ℕ → Type 0 = λ before. IfSome (held c.args.files.now) (λ bytes_of. bytes ≡ before ++ bytes_of c.args.second.now) in
    Ends-more g.K.Sink.output g.K.Sink.faults (comes bytes) (IsSecondFileOutcome told comes c.args.second.now)
    c.args.out.now c.on_patterns.new.out c.on_patterns.result.status
    (λ own text says. inr (
      bytes,
      (subst P none c.in-Ok-load_into.ensures.bytes, omega (arith, c.in-Ok-load_into.ensures.short, ap length none)),
      says,
    )) c.on_patterns.ensures.ends

pub returns-in-Err-clause-ends : goal.returns-in-Err-clause-ends
returns-in-Err-clause-ends g c =
    let told = observation_of g.F.Files.held g.F.Files.faults g.F.Files.longs c.args.files.now c.load_into.new.self in
    let comes = OfPatterns (g.J.OnPatterns.judges c.args.job.now) c.args.net.now in
    rw c.without_line-in-Err.ensures
    (Ends-more g.K.Sink.output g.K.Sink.faults (LoadPrints Second c.in-Err.fault) (IsSecondFileOutcome told comes c.args.second.now)
    c.args.out.now c.refuse_load.new.out c.refuse_load.result
    (λ own text says. inl (FileRefused-load told Second c.args.second.now c.in-Err.fault
    (λ is. c.load_into.ensures.failed (c.in-Err.is ∙ ap Err is)) (λ is. c.load_into.ensures.too_long (c.in-Err.is ∙ ap Err is))
    (λ is. c.load_into.ensures.over (c.in-Err.is ∙ ap Err is)) own text says)) c.refuse_load.ensures)

pub returns-in-Ok-load_into-clause-line : goal.returns-in-Ok-load_into-clause-line
returns-in-Ok-load_into-clause-line g c =
    let held = g.F.Files.held in
    let none : c.in-Ok.reader.received ≡ [] = ap (λ (all : PatternsReceived). all.received) c.in-Ok.ensures in
    let bytes = c.load_into.new.receiver.received in
    let P : List ℕ → Type 0 = λ before. IfSome (held c.args.files.now) (λ bytes_of. bytes ≡ before ++ bytes_of c.args.second.now) in
    inr (of-file (held c.args.files.now) c.args.second.now bytes (λ bytes. IsToldLine (HasPatternFault c.args.net.now bytes) c.on_patterns.result.status c.on_patterns.result.line)
    (subst P none c.in-Ok-load_into.ensures.bytes) c.on_patterns.ensures.line)

pub returns-in-Err-clause-line : goal.returns-in-Err-clause-line
returns-in-Err-clause-line g c =
    rw c.without_line-in-Err.ensures
    (inl (no-text g.K.Sink.output g.K.Sink.faults Second c.in-Err.fault c.args.out.now c.refuse_load.new.out c.refuse_load.result c.refuse_load.ensures, refl))
