-- A job, by what it is.
use Rattle.std.proofs.Common.{Some, None, refl, subst, sym}
use Rattle.hz_words.specs.Job.{job_model}
use Rattle.hz_words.specs.declared.job.Job.{Job}
use Rattle.hz_words.specs.declared.job.Job.TheVariants.{Demo}
use Rattle.hz_refusal.specs.Ends.{Ends}
use Rattle.hz_top.specs.Outcome.{IsJobOutcome, observation_of}
use Rattle.hz_changes.specs.Demos.{IsDemoOutcome}
use Rattle.hz_refusal.proofs.PutEndings.{Ends-more}
use Rattle.hz_top.specs.LeftFiles.{LeavesFiles}
use Rattle.hz_top.proofs.LeftFiles.{both-stay}
use Rattle.hz_top.specs.Reached.{IsReached}
use Rattle.hz_top.proofs.running.work.Goals as goal

pub returns-in-OnFiles-clause-ends : goal.returns-in-OnFiles-clause-ends
returns-in-OnFiles-clause-ends g c =
    let told = observation_of g.F.Files.held g.F.Files.faults g.F.Files.longs c.args.files.now c.work_on_files.new.files in
    subst (λ (job : Job). Ends g.K.Sink.output g.K.Sink.faults (IsJobOutcome told (Some (job_model job))) c.args.out.now c.work_on_files.new.out c.work_on_files.result.status)
    (sym c.in-OnFiles.is) c.work_on_files.ensures.ends

pub returns-in-Demo-clause-ends : goal.returns-in-Demo-clause-ends
returns-in-Demo-clause-ends g c =
    let told = observation_of g.F.Files.held g.F.Files.faults g.F.Files.longs c.args.files.now c.args.files.now in
    subst (λ (job : Job). Ends g.K.Sink.output g.K.Sink.faults (IsJobOutcome told (Some (job_model job))) c.args.out.now c.demo.new.out c.demo.result)
    (sym c.in-Demo.is)
    (Ends-more g.K.Sink.output g.K.Sink.faults (IsDemoOutcome c.in-Demo.number c.in-Demo.options.cap) (IsJobOutcome told (Some (job_model (Demo c.in-Demo.number c.in-Demo.options)))) c.args.out.now c.demo.new.out c.demo.result
    (λ own text says. ((λ place. (refl, refl)), says)) c.demo.ensures)

pub returns-in-OnFiles-clause-files : goal.returns-in-OnFiles-clause-files
returns-in-OnFiles-clause-files g c =
    let told = observation_of g.F.Files.held g.F.Files.faults g.F.Files.longs c.args.files.now c.work_on_files.new.files in
    subst (λ (job : Job). LeavesFiles told (Some (job_model job))) (sym c.in-OnFiles.is) c.work_on_files.ensures.files

pub returns-in-Demo-clause-files : goal.returns-in-Demo-clause-files
returns-in-Demo-clause-files g c =
    both-stay (observation_of g.F.Files.held g.F.Files.faults g.F.Files.longs c.args.files.now c.args.files.now) (Some (job_model c.args.job))
    (λ place. (refl, refl))

pub returns-in-OnFiles-clause-reached : goal.returns-in-OnFiles-clause-reached
returns-in-OnFiles-clause-reached g c =
    let told = observation_of g.F.Files.held g.F.Files.faults g.F.Files.longs c.args.files.now c.work_on_files.new.files in
    subst (λ (job : Job). IsReached told (Some (job_model job)) c.work_on_files.result.status c.work_on_files.result.reached) (sym c.in-OnFiles.is) c.work_on_files.ensures.reached

pub returns-in-Demo-clause-reached : goal.returns-in-Demo-clause-reached
returns-in-Demo-clause-reached g c =
    let told = observation_of g.F.Files.held g.F.Files.faults g.F.Files.longs c.args.files.now c.args.files.now in
    subst (λ (job : Job). IsReached told (Some (job_model job)) c.demo.result None) (sym c.in-Demo.is) refl
