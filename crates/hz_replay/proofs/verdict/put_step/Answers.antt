use Rattle.std.proofs.Common.{subst, sym}
use Rattle.hz_write.specs.Writes.{Wrote}
use Rattle.hz_gmw.specs.declared.replay_fault.StepFault.{StepFault}
use Rattle.hz_replay.specs.Verdict.{empty_line, step_line}
use Rattle.hz_replay.proofs.verdict.put_step.Goals as goal

pub returns-in-Empty : goal.returns-in-Empty
unfolding empty_line
returns-in-Empty g c =
    subst (λ (fault : StepFault). Wrote g.K.Sink.output g.K.Sink.faults (step_line c.args.net.now c.args.run c.args.step fault) c.args.out.now c.put_line.new.out c.put_line.result)
    (sym c.in-Empty.is) c.put_line.ensures

pub returns-in-Stable : goal.returns-in-Stable
returns-in-Stable g c =
    subst (λ (fault : StepFault). Wrote g.K.Sink.output g.K.Sink.faults (step_line c.args.net.now c.args.run c.args.step fault) c.args.out.now c.put_naming-in-Stable.new.out c.put_naming-in-Stable.result)
    (sym c.in-Stable.is) c.put_naming-in-Stable.ensures
