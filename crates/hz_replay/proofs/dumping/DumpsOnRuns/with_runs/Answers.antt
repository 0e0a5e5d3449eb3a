use Rattle.std.proofs.Common.{inl, inr, refl}
use Rattle.hz_refusal.specs.declared.status.Status.TheVariants as status
use Rattle.hz_replay.specs.Dumps.{IsVcdOutcome, IsLastWritten}
use Rattle.hz_replay.specs.Verdict.{no_line}
use Rattle.hz_refusal.proofs.PutEndings.{Ends-put, Ends-more}
use Rattle.hz_replay.proofs.dumping.DumpsOnRuns.with_runs.Goals as goal

pub returns-in-Ok-None : goal.returns-in-Ok-None
returns-in-Ok-None g c =
    let netlist = c.args.net.now in
    let text = c.args.runs.now in
    Ends-more g.K.Sink.output g.K.Sink.faults (IsLastWritten netlist text) (IsVcdOutcome netlist text) c.args.out.now c.dump_last.new.out c.dump_last.result
    (λ own written says. inl (rw c.in-Ok-None.field-0-is at c.in-Ok-None.ensures.outcome, says)) c.dump_last.ensures

pub returns-in-Ok-Some : goal.returns-in-Ok-Some
returns-in-Ok-Some g c =
    let run = c.in-Ok-Some.refused.run in
    let why = c.in-Ok-Some.refused.why in
    Ends-put g.K.Sink.output g.K.Sink.faults (IsVcdOutcome c.args.net.now c.args.runs.now) c.args.out.now c.put_no.new.out status.No (no_line c.args.net.now run why)
    c.put_no.result c.status_after.result tt (inr (run, why, rw c.in-Ok-Some.field-0-is at c.in-Ok-Some.ensures.outcome, (refl, refl))) c.put_no.ensures c.status_after.ensures
