use Rattle.std.proofs.Common.{inl, inr, refl}
use Rattle.hz_refusal.specs.declared.status.Status.TheVariants as status
use Rattle.hz_replay.specs.Verdict.{IsReplayOutcome, accepted_line, no_line}
use Rattle.hz_refusal.proofs.PutEndings.{Ends-put}
use Rattle.hz_replay.proofs.replaying.ReplaysOnRuns.with_runs.Goals as goal

pub returns-in-Ok-None : goal.returns-in-Ok-None
returns-in-Ok-None g c =
    let text = c.args.runs.now in
    Ends-put g.K.Sink.output g.K.Sink.faults (IsReplayOutcome c.args.net.now text) c.args.out.now c.put_yes.new.out status.Done (accepted_line text.runs)
    c.put_yes.result c.status_after.result tt (inl (rw c.in-Ok-None.field-0-is at c.in-Ok-None.ensures.outcome, (refl, refl))) c.put_yes.ensures c.status_after.ensures

pub returns-in-Ok-Some : goal.returns-in-Ok-Some
returns-in-Ok-Some g c =
    let run = c.in-Ok-Some.refused.run in
    let why = c.in-Ok-Some.refused.why in
    Ends-put g.K.Sink.output g.K.Sink.faults (IsReplayOutcome c.args.net.now c.args.runs.now) c.args.out.now c.put_no.new.out status.No (no_line c.args.net.now run why)
    c.put_no.result c.status_after-in-Ok-Some.result tt (inr (run, why, rw c.in-Ok-Some.field-0-is at c.in-Ok-Some.ensures.outcome, (refl, refl))) c.put_no.ensures c.status_after-in-Ok-Some.ensures
