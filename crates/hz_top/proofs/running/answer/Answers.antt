-- All that was put is flushed.
use Rattle.std.proofs.Common.{map}
use Rattle.std.specs.String.{string_bytes}
use Rattle.hz_refusal.specs.Ends.{written_of}
use Rattle.hz_words.specs.Job.{job_of}
use Rattle.hz_top.specs.Outcome.{observation_of, IsJobOutcome}
use Rattle.hz_top.proofs.FaultlessEndings.{asked-end, ends-or-memory}
use Rattle.hz_refusal.proofs.Flushed.{Answers-flushed, Count-flushed}
use Rattle.hz_top.proofs.Headlines.{headline}
use Rattle.hz_top.proofs.ReachedLemmas.{reached-end}
use Rattle.hz_top.proofs.running.answer.Goals as goal

pub returns-clause-runs : goal.returns-clause-runs
returns-clause-runs g c =
    let worked = c.work_by_words-worked in
    let was = c.args.out.now in
    let now = c.flush.new.self in
    let ends = c.status_flushed.result in
    let told = observation_of g.F.Files.held g.F.Files.faults g.F.Files.longs c.args.files.now worked.new.files in
    let asked = job_of (map string_bytes c.args.words.now) in
    let comes = IsJobOutcome told asked in
    let flushed = c.flush.ensures in
    let answers = Answers-flushed g.K.Sink.output g.K.Sink.faults comes was worked.new.out now worked.result.status c.flush.result ends c.requires.none_waits worked.ensures.ends
    flushed.whole flushed.none_waits flushed.failed flushed.memory flushed.counted flushed.never_falls c.status_flushed.ensures in
    record {
      headline = headline (written_of g.K.Sink.output) g.K.Sink.faults told asked was now ends c.texts_are_circuits.ensures answers;
      answer = answers;
      counted = Count-flushed g.K.Sink.output g.K.Sink.faults comes was worked.new.out now worked.result.status c.flush.result ends worked.ensures.ends
          flushed.counted flushed.quiet flushed.never_falls c.status_flushed.ensures;
      files = worked.ensures.files;
      done = λ job own is good quiet.
          ends-or-memory (written_of g.K.Sink.output) g.K.Sink.faults comes was now ends answers own (asked-end told asked job own is good) quiet;
    }

pub returns-clause-reached : goal.returns-clause-reached
returns-clause-reached g c =
    let worked = c.work_by_words-worked in
    let told = observation_of g.F.Files.held g.F.Files.faults g.F.Files.longs c.args.files.now worked.new.files in
    let asked = job_of (map string_bytes c.args.words.now) in
    reached-end c.flush.result worked.result.status c.status_flushed.result told asked worked.result.reached c.status_flushed.ensures worked.ensures.reached
