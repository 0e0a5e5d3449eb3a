use Rattle.std.proofs.Common.{◌≡◌, None, refl, subst, sym, Option, map}
use Rattle.std.specs.String.{string_bytes}
use Rattle.hz_refusal.specs.declared.status.Status.TheVariants as status
use Rattle.hz_refusal.specs.Ends.{Ends}
use Rattle.hz_words.specs.Job.{JobOf, job_of}
use Rattle.hz_top.specs.Outcome.{IsJobOutcome, observation_of}
use Rattle.hz_refusal.specs.Refusal.{words_line}
use Rattle.hz_refusal.proofs.PutEndings.{Ends-put}
use Rattle.hz_top.specs.LeftFiles.{LeavesFiles}
use Rattle.hz_top.proofs.LeftFiles.{both-stay}
use Rattle.hz_top.specs.Reached.{IsReached}
use Rattle.hz_top.proofs.ReachedLemmas.{wordless}
use Rattle.hz_top.proofs.running.work_by_words.Goals as goal

pub returns-in-Ok-clause-ends : goal.returns-in-Ok-clause-ends
returns-in-Ok-clause-ends g c =
    let told = observation_of g.F.Files.held g.F.Files.faults g.F.Files.longs c.args.files.now c.work.new.files in
    subst (λ (job : Option JobOf). Ends g.K.Sink.output g.K.Sink.faults (IsJobOutcome told job) c.args.out.now c.work.new.out c.work.result.status) (sym c.in-Ok.ensures.job) c.work.ensures.ends

pub returns-in-Err-Refused-clause-ends : goal.returns-in-Err-Refused-clause-ends
returns-in-Err-Refused-clause-ends g c =
    let told = observation_of g.F.Files.held g.F.Files.faults g.F.Files.longs c.args.files.now c.args.files.now in
    let asked = job_of (map string_bytes c.args.words.now) in
    let none : asked ≡ None = rw (c.in-Err-Refused.is, c.in-Err-Refused.field-0-is) at c.read.ensures.job in
    Ends-put g.K.Sink.output g.K.Sink.faults (IsJobOutcome told asked) c.args.out.now c.put_words.new.out status.Words words_line
    c.put_words.result c.status_after.result tt
    (subst (λ (job : Option JobOf). IsJobOutcome told job status.Words words_line) (sym none) ((λ place. (refl, refl)), (refl, refl))) c.put_words.ensures c.status_after.ensures

pub returns-in-Ok-clause-files : goal.returns-in-Ok-clause-files
returns-in-Ok-clause-files g c =
    let told = observation_of g.F.Files.held g.F.Files.faults g.F.Files.longs c.args.files.now c.work.new.files in
    subst (LeavesFiles told) (sym c.in-Ok.ensures.job) c.work.ensures.files

pub returns-in-Err-Refused-clause-files : goal.returns-in-Err-Refused-clause-files
returns-in-Err-Refused-clause-files g c =
    both-stay (observation_of g.F.Files.held g.F.Files.faults g.F.Files.longs c.args.files.now c.args.files.now) (job_of (map string_bytes c.args.words.now))
    (λ place. (refl, refl))

pub returns-in-Err-Memory-clause-files : goal.returns-in-Err-Memory-clause-files
returns-in-Err-Memory-clause-files g c =
    both-stay (observation_of g.F.Files.held g.F.Files.faults g.F.Files.longs c.args.files.now c.args.files.now) (job_of (map string_bytes c.args.words.now))
    (λ place. (refl, refl))

pub returns-in-Ok-clause-reached : goal.returns-in-Ok-clause-reached
returns-in-Ok-clause-reached g c =
    let told = observation_of g.F.Files.held g.F.Files.faults g.F.Files.longs c.args.files.now c.work.new.files in
    subst (λ (job : Option JobOf). IsReached told job c.work.result.status c.work.result.reached) (sym c.in-Ok.ensures.job) c.work.ensures.reached

pub returns-in-Err-Refused-clause-reached : goal.returns-in-Err-Refused-clause-reached
returns-in-Err-Refused-clause-reached g c =
    let told = observation_of g.F.Files.held g.F.Files.faults g.F.Files.longs c.args.files.now c.args.files.now in
    let asked = job_of (map string_bytes c.args.words.now) in
    let none : asked ≡ None = rw (c.in-Err-Refused.is, c.in-Err-Refused.field-0-is) at c.read.ensures.job in
    subst (λ (job : Option JobOf). IsReached told job c.status_after.result None) (sym none) refl

pub returns-in-Err-Memory-clause-reached : goal.returns-in-Err-Memory-clause-reached
returns-in-Err-Memory-clause-reached g c =
    wordless (observation_of g.F.Files.held g.F.Files.faults g.F.Files.longs c.args.files.now c.args.files.now) (job_of (map string_bytes c.args.words.now))
