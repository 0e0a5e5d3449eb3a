-- The common beginning is counted for both runs.
use Rattle.std.proofs.Common.{◌≡◌, ◌∙◌, sym, ap, subst, drop, arith}
use Rattle.std.specs.List.{slice_range}
use Rattle.hz_net.specs.Network.{network_of}
use Rattle.hz_gmw.specs.Runs.{IsRun, end_of}
use Rattle.hz_gmw.specs.Cycles.{states_of}
use Rattle.hz_gmw.specs.Follower.{FollowerOf, follower_at}
use Rattle.hz_desk.specs.Races.{race_count, states_before, cycle_states}
use Rattle.hz_desk.specs.RunProgress.{IsShortRun}
use Rattle.hz_desk.proofs.CommonSteps.{cut-first, cut-second, at-end}
use Rattle.hz_desk.proofs.races.count_races.Goals as goal

pub races_before-shared-requires-clause-run : goal.races_before-shared-requires-clause-run
races_before-shared-requires-clause-run c =
    let net = network_of c.args.follower.now.circuit in
    let cut = cut-second net c.args.change.now.input.now c.args.change.now.start.now c.args.spread.now.steps c.args.settle.now.steps c.args.common c.requires.common c.requires.settle in
    subst (λ (f : FollowerOf). IsShortRun (network_of f.circuit) f.input f.state (slice_range c.args.settle.now.steps 0 c.args.common)) (sym c.begin.ensures) cut.short_front

pub last_races-requires-clause-run : goal.last_races-requires-clause-run
last_races-requires-clause-run c =
    let net = network_of c.args.follower.now.circuit in
    let shared = slice_range c.args.settle.now.steps 0 c.args.common in
    let cut = cut-first net c.args.change.now.input.now c.args.change.now.start.now c.args.spread.now.steps c.args.settle.now.steps c.args.common c.requires.common c.requires.spread in
    let at = at-end c.begin.new.self c.races_before-shared.new.follower shared c.begin.ensures c.races_before-shared.ensures.circuit c.races_before-shared.ensures.input c.races_before-shared.ensures.ends in
    subst (λ (f : FollowerOf). IsRun (network_of f.circuit) f.input f.state (drop c.args.common c.args.spread.now.steps)) (sym at) cut.short_back.run

pub run_races-requires-clause-run : goal.run_races-requires-clause-run
run_races-requires-clause-run c =
    let net = network_of c.args.follower.now.circuit in
    let shared = slice_range c.args.settle.now.steps 0 c.args.common in
    let cut = cut-second net c.args.change.now.input.now c.args.change.now.start.now c.args.spread.now.steps c.args.settle.now.steps c.args.common c.requires.common c.requires.settle in
    let at = c.last_races.ensures.back ∙ at-end c.begin.new.self c.races_before-shared.new.follower shared c.begin.ensures c.races_before-shared.ensures.circuit c.races_before-shared.ensures.input c.races_before-shared.ensures.ends in
    subst (λ (f : FollowerOf). IsShortRun (network_of f.circuit) f.input f.state (drop c.args.common c.args.settle.now.steps)) (sym at) cut.short_back

pub cycle_races-cycle-requires : goal.cycle_races-cycle-requires
cycle_races-cycle-requires c =
    let net = network_of c.args.follower.now.circuit in
    let shared = slice_range c.args.settle.now.steps 0 c.args.common in
    let cut = cut-second net c.args.change.now.input.now c.args.change.now.start.now c.args.spread.now.steps c.args.settle.now.steps c.args.common c.requires.common c.requires.settle in
    let at = c.last_races.ensures.back ∙ at-end c.begin.new.self c.races_before-shared.new.follower shared c.begin.ensures c.races_before-shared.ensures.circuit c.races_before-shared.ensures.input c.races_before-shared.ensures.ends in
    let last = at-end c.last_races.new.follower c.run_races.new.follower (drop c.args.common c.args.settle.now.steps) at c.run_races.ensures.circuit c.run_races.ensures.input c.run_races.ensures.ends ∙ ap (follower_at c.args.follower.now.circuit c.args.change.now.input.now) cut.ends in
    subst (λ (f : FollowerOf). IsShortRun (network_of f.circuit) f.input f.state c.args.cycle.now.steps) (sym last) c.requires.cycle

pub returns-clause-races : goal.returns-clause-races
returns-clause-races c =
    let net = network_of c.args.follower.now.circuit in
    let input = c.args.change.now.input.now in
    let start = c.args.change.now.start.now in
    let spread = c.args.spread.now.steps in
    let settle = c.args.settle.now.steps in
    let common = c.args.common in
    let shared = slice_range settle 0 common in
    let first = cut-first net input start spread settle common c.requires.common c.requires.spread in
    let second = cut-second net input start spread settle common c.requires.common c.requires.settle in
    let here = at-end c.begin.new.self c.races_before-shared.new.follower shared c.begin.ensures c.races_before-shared.ensures.circuit c.races_before-shared.ensures.input c.races_before-shared.ensures.ends in
    let back = c.last_races.ensures.back ∙ here in
    let last = at-end c.last_races.new.follower c.run_races.new.follower (drop common settle) back c.run_races.ensures.circuit c.run_races.ensures.input c.run_races.ensures.ends ∙ ap (follower_at c.args.follower.now.circuit input) second.ends in
    let of_shared : c.races_before-shared.result ≡ race_count net input (states_before start shared) =
    subst (λ (f : FollowerOf). c.races_before-shared.result ≡ race_count (network_of f.circuit) f.input (states_before f.state shared)) c.begin.ensures c.races_before-shared.ensures.races in
    let of_last : c.last_races.result ≡ race_count net input (states_of (end_of start shared) (drop common spread)) =
    subst (λ (f : FollowerOf). c.last_races.result ≡ race_count (network_of f.circuit) f.input (states_of f.state (drop common spread))) here c.last_races.ensures.races in
    let of_rest : c.run_races.result ≡ race_count net input (states_of (end_of start shared) (drop common settle)) =
    subst (λ (f : FollowerOf). c.run_races.result ≡ race_count (network_of f.circuit) f.input (states_of f.state (drop common settle))) back c.run_races.ensures.races in
    record {
      of_spread = omega (arith, of_shared, of_last, first.counted);
      of_settle = omega (arith, of_shared, of_rest, second.counted);
      of_cycle = subst (λ (f : FollowerOf). c.cycle_races-cycle.result ≡ race_count (network_of f.circuit) f.input (cycle_states f.state c.args.cycle.now.steps)) last c.cycle_races-cycle.ensures.races;
    }
