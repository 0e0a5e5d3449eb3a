use Rattle.std.proofs.Common.{subst, sym}
use Rattle.hz_words.specs.declared.job.Task.{Task}
use Rattle.hz_refusal.specs.Ends.{Ends}
use Rattle.hz_top.specs.Outcome.{IsSecondFileOutcome, observation_of}
use Rattle.hz_top.specs.Reached.{tells_line, IsLineOnCircuit}
use Rattle.hz_top.specs.Tasks.{comes_of}
use Rattle.hz_top.proofs.order.work_on_second.Goals as goal

pub returns-in-Analyse-clause-ends : goal.returns-in-Analyse-clause-ends
returns-in-Analyse-clause-ends g c =
    let told = observation_of g.F.Files.held g.F.Files.faults g.F.Files.longs c.args.files.now c.work_on_script.new.files in
    subst (λ (task : Task). Ends g.K.Sink.output g.K.Sink.faults (IsSecondFileOutcome told (comes_of c.args.work.options task c.args.net.now) c.args.second.now) c.args.out.now c.work_on_script.new.out c.work_on_script.result.status)
    (sym c.in-Analyse.is) c.work_on_script.ensures.ends

pub returns-in-Edges-clause-ends : goal.returns-in-Edges-clause-ends
returns-in-Edges-clause-ends g c =
    let told = observation_of g.F.Files.held g.F.Files.faults g.F.Files.longs c.args.files.now c.work_on_timed.new.files in
    subst (λ (task : Task). Ends g.K.Sink.output g.K.Sink.faults (IsSecondFileOutcome told (comes_of c.args.work.options task c.args.net.now) c.args.second.now) c.args.out.now c.work_on_timed.new.out c.work_on_timed.result.status)
    (sym c.in-Edges.is) c.work_on_timed.ensures.ends

pub returns-in-Explore-clause-ends : goal.returns-in-Explore-clause-ends
returns-in-Explore-clause-ends g c =
    let told = observation_of g.F.Files.held g.F.Files.faults g.F.Files.longs c.args.files.now c.work_on_timed-in-Explore.new.files in
    subst (λ (task : Task). Ends g.K.Sink.output g.K.Sink.faults (IsSecondFileOutcome told (comes_of c.args.work.options task c.args.net.now) c.args.second.now) c.args.out.now c.work_on_timed-in-Explore.new.out c.work_on_timed-in-Explore.result.status)
    (sym c.in-Explore.is) c.work_on_timed-in-Explore.ensures.ends

pub returns-in-Split-clause-ends : goal.returns-in-Split-clause-ends
returns-in-Split-clause-ends g c =
    let told = observation_of g.F.Files.held g.F.Files.faults g.F.Files.longs c.args.files.now c.work_on_script-in-Split.new.files in
    subst (λ (task : Task). Ends g.K.Sink.output g.K.Sink.faults (IsSecondFileOutcome told (comes_of c.args.work.options task c.args.net.now) c.args.second.now) c.args.out.now c.work_on_script-in-Split.new.out c.work_on_script-in-Split.result.status)
    (sym c.in-Split.is) c.work_on_script-in-Split.ensures.ends

pub returns-in-Replay-clause-ends : goal.returns-in-Replay-clause-ends
returns-in-Replay-clause-ends g c =
    let told = observation_of g.F.Files.held g.F.Files.faults g.F.Files.longs c.args.files.now c.work_on_runs.new.files in
    subst (λ (task : Task). Ends g.K.Sink.output g.K.Sink.faults (IsSecondFileOutcome told (comes_of c.args.work.options task c.args.net.now) c.args.second.now) c.args.out.now c.work_on_runs.new.out c.work_on_runs.result.status)
    (sym c.in-Replay.is) c.work_on_runs.ensures.ends

pub returns-in-Convert-clause-ends : goal.returns-in-Convert-clause-ends
returns-in-Convert-clause-ends g c =
    let told = observation_of g.F.Files.held g.F.Files.faults g.F.Files.longs c.args.files.now c.work_on_runs-in-Convert.new.files in
    subst (λ (task : Task). Ends g.K.Sink.output g.K.Sink.faults (IsSecondFileOutcome told (comes_of c.args.work.options task c.args.net.now) c.args.second.now) c.args.out.now c.work_on_runs-in-Convert.new.out c.work_on_runs-in-Convert.result.status)
    (sym c.in-Convert.is) c.work_on_runs-in-Convert.ensures.ends

pub returns-in-Vcd-clause-ends : goal.returns-in-Vcd-clause-ends
returns-in-Vcd-clause-ends g c =
    let told = observation_of g.F.Files.held g.F.Files.faults g.F.Files.longs c.args.files.now c.work_on_runs-in-Vcd.new.files in
    subst (λ (task : Task). Ends g.K.Sink.output g.K.Sink.faults (IsSecondFileOutcome told (comes_of c.args.work.options task c.args.net.now) c.args.second.now) c.args.out.now c.work_on_runs-in-Vcd.new.out c.work_on_runs-in-Vcd.result.status)
    (sym c.in-Vcd.is) c.work_on_runs-in-Vcd.ensures.ends

pub returns-in-Batch-clause-ends : goal.returns-in-Batch-clause-ends
returns-in-Batch-clause-ends g c =
    let told = observation_of g.F.Files.held g.F.Files.faults g.F.Files.longs c.args.files.now c.work_on_patterns.new.files in
    subst (λ (task : Task). Ends g.K.Sink.output g.K.Sink.faults (IsSecondFileOutcome told (comes_of c.args.work.options task c.args.net.now) c.args.second.now) c.args.out.now c.work_on_patterns.new.out c.work_on_patterns.result.status)
    (sym c.in-Batch.is) c.work_on_patterns.ensures.ends

pub returns-in-Reset-clause-ends : goal.returns-in-Reset-clause-ends
returns-in-Reset-clause-ends g c =
    let told = observation_of g.F.Files.held g.F.Files.faults g.F.Files.longs c.args.files.now c.work_on_patterns-in-Reset.new.files in
    subst (λ (task : Task). Ends g.K.Sink.output g.K.Sink.faults (IsSecondFileOutcome told (comes_of c.args.work.options task c.args.net.now) c.args.second.now) c.args.out.now c.work_on_patterns-in-Reset.new.out c.work_on_patterns-in-Reset.result.status)
    (sym c.in-Reset.is) c.work_on_patterns-in-Reset.ensures.ends

pub returns-in-Analyse-clause-line : goal.returns-in-Analyse-clause-line
returns-in-Analyse-clause-line g c =
    subst (λ (task : Task). IsLineOnCircuit (g.F.Files.held c.args.files.now) (tells_line task c.args.net.now) c.args.second.now c.work_on_script.result.status c.work_on_script.result.line)
    (sym c.in-Analyse.is) c.work_on_script.ensures.line

pub returns-in-Edges-clause-line : goal.returns-in-Edges-clause-line
returns-in-Edges-clause-line g c =
    subst (λ (task : Task). IsLineOnCircuit (g.F.Files.held c.args.files.now) (tells_line task c.args.net.now) c.args.second.now c.work_on_timed.result.status c.work_on_timed.result.line)
    (sym c.in-Edges.is) c.work_on_timed.ensures.line

pub returns-in-Explore-clause-line : goal.returns-in-Explore-clause-line
returns-in-Explore-clause-line g c =
    subst (λ (task : Task). IsLineOnCircuit (g.F.Files.held c.args.files.now) (tells_line task c.args.net.now) c.args.second.now c.work_on_timed-in-Explore.result.status c.work_on_timed-in-Explore.result.line)
    (sym c.in-Explore.is) c.work_on_timed-in-Explore.ensures.line

pub returns-in-Split-clause-line : goal.returns-in-Split-clause-line
returns-in-Split-clause-line g c =
    subst (λ (task : Task). IsLineOnCircuit (g.F.Files.held c.args.files.now) (tells_line task c.args.net.now) c.args.second.now c.work_on_script-in-Split.result.status c.work_on_script-in-Split.result.line)
    (sym c.in-Split.is) c.work_on_script-in-Split.ensures.line

pub returns-in-Replay-clause-line : goal.returns-in-Replay-clause-line
returns-in-Replay-clause-line g c =
    subst (λ (task : Task). IsLineOnCircuit (g.F.Files.held c.args.files.now) (tells_line task c.args.net.now) c.args.second.now c.work_on_runs.result.status c.work_on_runs.result.line)
    (sym c.in-Replay.is) c.work_on_runs.ensures.line

pub returns-in-Convert-clause-line : goal.returns-in-Convert-clause-line
returns-in-Convert-clause-line g c =
    subst (λ (task : Task). IsLineOnCircuit (g.F.Files.held c.args.files.now) (tells_line task c.args.net.now) c.args.second.now c.work_on_runs-in-Convert.result.status c.work_on_runs-in-Convert.result.line)
    (sym c.in-Convert.is) c.work_on_runs-in-Convert.ensures.line

pub returns-in-Vcd-clause-line : goal.returns-in-Vcd-clause-line
returns-in-Vcd-clause-line g c =
    subst (λ (task : Task). IsLineOnCircuit (g.F.Files.held c.args.files.now) (tells_line task c.args.net.now) c.args.second.now c.work_on_runs-in-Vcd.result.status c.work_on_runs-in-Vcd.result.line)
    (sym c.in-Vcd.is) c.work_on_runs-in-Vcd.ensures.line

pub returns-in-Batch-clause-line : goal.returns-in-Batch-clause-line
returns-in-Batch-clause-line g c =
    subst (λ (task : Task). IsLineOnCircuit (g.F.Files.held c.args.files.now) (tells_line task c.args.net.now) c.args.second.now c.work_on_patterns.result.status c.work_on_patterns.result.line)
    (sym c.in-Batch.is) c.work_on_patterns.ensures.line

pub returns-in-Reset-clause-line : goal.returns-in-Reset-clause-line
returns-in-Reset-clause-line g c =
    subst (λ (task : Task). IsLineOnCircuit (g.F.Files.held c.args.files.now) (tells_line task c.args.net.now) c.args.second.now c.work_on_patterns-in-Reset.result.status c.work_on_patterns-in-Reset.result.line)
    (sym c.in-Reset.is) c.work_on_patterns-in-Reset.ensures.line
