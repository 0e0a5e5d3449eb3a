-- The last state is counted too.
use Rattle.std.proofs.Common.{◌≡◌, ◌∙◌, ℕ, List, drop, sym, ap, subst, arith}
use Rattle.std.specs.List.{slice_range}
use Rattle.std.proofs.lemmas.Slice.{between_to_end}
use Rattle.hz_net.specs.Network.{network_of}
use Rattle.hz_gmw.specs.Runs.{end_of}
use Rattle.hz_desk.specs.Races.{race_count, states_before}
use Rattle.hz_desk.specs.RunProgress.{IsShortRun}
use Rattle.hz_desk.proofs.RaceLoop.{all-states, race_bit}
use Rattle.hz_desk.proofs.races.run_races.Goals as goal

pub returns-clause-races : goal.returns-clause-races
returns-clause-races c =
    let net = network_of c.args.follower.now.circuit in
    let input = c.args.follower.now.input in
    let state = c.args.follower.now.state in
    let steps = drop c.args.from c.args.run.now.steps in
    let part : slice_range c.args.run.now.steps c.args.from c.steps.result ≡ steps = between_to_end c.args.run.now.steps c.args.from c.steps.result (omega (arith, c.steps.ensures)) in
    let last : c.race_here.result ≡ race_bit net input (end_of state steps) =
    let now = c.race_here.ensures in
    rw (c.races_before-before.ensures.circuit, c.races_before-before.ensures.input, c.races_before-before.ensures.ends, part) at now in
    let before : c.races_before-before.result ≡ race_count net input (states_before state steps) =
    subst (λ (list : List (List ℕ)). c.races_before-before.result ≡ race_count net input (states_before state list)) part c.races_before-before.ensures.races in
    omega (arith, before, last, all-states net input state steps)

pub returns-clause-ends : goal.returns-clause-ends
returns-clause-ends c =
    c.races_before-before.ensures.ends
    ∙ ap (end_of c.args.follower.now.state) (between_to_end c.args.run.now.steps c.args.from c.steps.result (omega (arith, c.steps.ensures)))

pub races_before-before-requires-clause-run : goal.races_before-before-requires-clause-run
races_before-before-requires-clause-run c =
    subst (IsShortRun (network_of c.args.follower.now.circuit) c.args.follower.now.input c.args.follower.now.state)
    (sym (between_to_end c.args.run.now.steps c.args.from c.steps.result (omega (arith, c.steps.ensures)))) c.requires.run
