use Rattle.std.proofs.Common.{◌∙◌, Bool, List, get_or, subst, ap, All}
use Rattle.hz_replay.proofs.Words.{option_map, Driver, network_of, Replayer, IsAcceptedRun, IsRefusedRun, run_of, no_run}
use Rattle.std.proofs.lemmas.List.{take_all}
use Rattle.hz_replay.proofs.RunSteps.{same-run, run-variables, run-few, begun-again, kept-again, accepted-more, first-refused}
use Rattle.hz_replay.proofs.replaying.replay_runs.Goals as goal

pub replay_run-requires-clause-variables : goal.replay_run-requires-clause-variables
replay_run-requires-clause-variables c =
    let runs = c.args.text.now.runs in
    let number = c.loop-number.number in
    let told = same-run c.lead.result.now.steps (option_map (λ run. run.now.steps) c.cycle.result) (get_or runs number no_run) c.lead.ensures c.cycle.ensures in
    run-variables c.args.replay.now.circuit c.restart.new.self.circuit runs number _ told (rw c.runs-number-end.ensures at c.loop-number-test.true)
    (ap (λ (r : Replayer). r.circuit) c.restart.ensures.at ∙ c.loop-number.invariant.0.circuit) c.requires.text.variables

pub replay_run-requires-clause-few : goal.replay_run-requires-clause-few
replay_run-requires-clause-few c =
    let runs = c.args.text.now.runs in
    let number = c.loop-number.number in
    let told = same-run c.lead.result.now.steps (option_map (λ run. run.now.steps) c.cycle.result) (get_or runs number no_run) c.lead.ensures c.cycle.ensures in
    run-few runs number _ told (rw c.runs-number-end.ensures at c.loop-number-test.true) c.requires.text.few_steps

pub returns-in-Err : goal.returns-in-Err
returns-in-Err c =
    let runs = c.args.text.now.runs in
    let number = c.loop-number.number in
    let lead = c.lead.result.now.steps in
    let cycle = option_map (λ run. run.now.steps) c.cycle.result in
    let told = same-run lead cycle (get_or runs number no_run) c.lead.ensures c.cycle.ensures in
    let refused = begun-again (λ (net : List Driver) (input start : List Bool). IsRefusedRun net input start (run_of lead cycle) c.in-Err.why)
    c.args.replay.now.circuit c.args.text.now.input c.args.start.now c.loop-number.replay c.restart.new.self c.loop-number.invariant.0 c.restart.ensures.at c.in-Err.ensures.outcome in
    first-refused (network_of c.args.replay.now.circuit) c.args.text.now.input c.args.start.now runs number (run_of lead cycle) c.in-Err.why told
    (rw c.runs-number-end.ensures at c.loop-number-test.true) c.loop-number.invariant.1 refused

pub loop-number-preserved : goal.loop-number-preserved
loop-number-preserved c =
    let runs = c.args.text.now.runs in
    let number = c.loop-number.number in
    let lead = c.lead.result.now.steps in
    let cycle = option_map (λ run. run.now.steps) c.cycle.result in
    let told = same-run lead cycle (get_or runs number no_run) c.lead.ensures c.cycle.ensures in
    let accepted = begun-again (λ (net : List Driver) (input start : List Bool). IsAcceptedRun net input start (run_of lead cycle))
    c.args.replay.now.circuit c.args.text.now.input c.args.start.now c.loop-number.replay c.restart.new.self c.loop-number.invariant.0 c.restart.ensures.at c.in-Ok.ensures.outcome in (
      kept-again c.args.replay.now.circuit c.args.text.now.input c.args.start.now c.loop-number.replay c.restart.new.self c.replay_run.new.replay c.loop-number.invariant.0 c.restart.ensures.at c.replay_run.ensures.begin,
      accepted-more (network_of c.args.replay.now.circuit) c.args.text.now.input c.args.start.now runs number (run_of lead cycle) told
          (rw c.runs-number-end.ensures at c.loop-number-test.true) c.loop-number.invariant.1 accepted,
    )

pub returns : goal.returns
returns c =
    subst (All (IsAcceptedRun (network_of c.args.replay.now.circuit) c.args.text.now.input c.args.start.now))
    (take_all c.loop-number.number c.args.text.now.runs (rw c.runs-number-end.ensures at c.loop-number-test.false)) c.loop-number.invariant.1
