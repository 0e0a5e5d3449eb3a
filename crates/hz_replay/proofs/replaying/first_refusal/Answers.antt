-- What is said of the replayer is said of the text.
use Rattle.std.proofs.Common.{◌∙◌, ap, List, Bool, All, length, sym, subst}
use Rattle.hz_replay.proofs.Words.{Netlist, Driver, network_of, expansion_of, Replayer, IsAcceptedRun, IsFirstRefusal}
use Rattle.hz_replay.proofs.RunSteps.{of-text}
use Rattle.hz_replay.proofs.NamedVariables.{refusal-variable}
use Rattle.hz_replay.proofs.replaying.first_refusal.Goals as goal

pub replay_runs-requires-clause-start : goal.replay_runs-requires-clause-start
replay_runs-requires-clause-start c =
    ap length c.as_slice.ensures.value ∙ (c.in_ok-start.ensures.long ∙ ap (λ (r : Replayer). length (network_of r.circuit)) (sym c.in_ok-replay.ensures.at))

pub returns-in-Ok-clause-outcome : goal.returns-in-Ok-clause-outcome
returns-in-Ok-clause-outcome c =
    let text = c.args.runs.now in
    of-text (λ (net : List Driver) (start : List Bool). All (IsAcceptedRun net text.input start) text.runs) c.args.net.now text c.in_ok-replay.replay c.as_slice.result.now
    (ap (λ (r : Replayer). r.circuit) c.in_ok-replay.ensures.at)
    (c.as_slice.ensures.value ∙ c.in_ok-start.ensures.start ∙ ap (expansion_of c.args.net.now) c.nodes.ensures) c.in-Ok.ensures

pub returns-clause-outcome : goal.returns-clause-outcome
returns-clause-outcome c =
    let text = c.args.runs.now in
    let run = c.in-Err.refused.run in
    let why = c.in-Err.refused.why in
    of-text (λ (net : List Driver) (start : List Bool). IsFirstRefusal net text.input start text.runs run why) c.args.net.now text c.in_ok-replay.replay c.as_slice.result.now
    (ap (λ (r : Replayer). r.circuit) c.in_ok-replay.ensures.at)
    (c.as_slice.ensures.value ∙ c.in_ok-start.ensures.start ∙ ap (expansion_of c.args.net.now) c.nodes.ensures) c.in-Err.ensures

pub returns-clause-named : goal.returns-clause-named
returns-clause-named c =
    let text = c.args.runs.now in
    refusal-variable c.args.net.now text c.as_slice.result.now c.in-Err.refused.run c.in-Err.refused.why c.requires (ap length c.as_slice.ensures.value ∙ c.in_ok-start.ensures.long)
    (subst (λ (netlist : Netlist). IsFirstRefusal (network_of netlist) text.input c.as_slice.result.now text.runs c.in-Err.refused.run c.in-Err.refused.why)
    (ap (λ (r : Replayer). r.circuit) c.in_ok-replay.ensures.at) c.in-Err.ensures)
