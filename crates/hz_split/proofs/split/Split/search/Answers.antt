-- The attempts of a right finding.
use Rattle.std.proofs.Common.{◌≡◌, ◌∙◌, ◌++◌, ℕ, List, [], Bool, length, take, map, min, sym, ap, subst, arith}
use Rattle.hz_split.proofs.Words.{range_with_len, append-nil, Netlist, network_of, end_of, most_fronts, FoundOf}
use Rattle.std.specs.Vec.{with_items}
use Rattle.std.proofs.lemmas.List.{with_items_is}
use Rattle.hz_desk.specs.Finding.{finding_of}
use Rattle.hz_split.specs.Attempts.{attempts}
use Rattle.hz_split.specs.Splits.{SplitOf}
use Rattle.hz_split.proofs.FoundWhole.{StandsFor, EndsAs, stands-all, attempts-variables}
use Rattle.hz_split.proofs.OutcomeRuns.{are-settled, attempts-run, fronts-run}
use Rattle.hz_split.proofs.RunFacts.{run-inside, run-once, settle-run, cycle-run, room}
use Rattle.hz_split.proofs.split.Split.search.Goals as goal

pub make_run-requires-clause-once : goal.make_run-requires-clause-once
make_run-requires-clause-once c =
    let net = network_of c.args.self.now.netlist in
    let right = c.requires.right in
    run-once net c.args.finding.now.input c.args.start.now c.args.finding.now.settle.steps
    (settle-run net c.args.finding.now.input c.args.start.now right.0 (finding_of c.args.finding.now) right.1)

pub attempt_all-requires-clause-once : goal.attempt_all-requires-clause-once
attempt_all-requires-clause-once c =
    let net = network_of c.args.self.now.netlist in
    let right = c.requires.right in
    run-once net c.args.finding.now.input _ c.args.finding.now.cycle.steps
    (cycle-run net c.args.finding.now.input c.args.start.now right.0 (finding_of c.args.finding.now) right.1)

pub attempt_all-requires-clause-inside : goal.attempt_all-requires-clause-inside
attempt_all-requires-clause-inside c =
    let right = c.requires.right in
    let same = ap (λ (s : SplitOf). s.netlist) c.self.view_is in
    rw same
    (run-inside (network_of c.args.self.now.netlist) c.args.finding.now.input _ c.args.finding.now.cycle.steps
    (cycle-run (network_of c.args.self.now.netlist) c.args.finding.now.input c.args.start.now right.0 (finding_of c.args.finding.now) right.1))

pub attempt_all-requires-clause-room : goal.attempt_all-requires-clause-room
attempt_all-requires-clause-room c =
    let right = c.requires.right in
    let net = network_of c.args.self.now.netlist in
    let same = ap (λ (s : SplitOf). s.netlist) c.self.view_is in
    let settle = settle-run net c.args.finding.now.input c.args.start.now right.0 (finding_of c.args.finding.now) right.1 in
    rw same
    (room net c.args.finding.now.input c.args.start.now right.0 (finding_of c.args.finding.now) right.1 c.requires.start.long
    (c.run_counts.ensures.steps net c.args.finding.now.input c.args.start.now c.args.finding.now.settle.steps settle))

pub make_run-requires-clause-inside : goal.make_run-requires-clause-inside
make_run-requires-clause-inside c =
    let right = c.requires.right in
    let net = network_of c.args.self.now.netlist in
    let long : length c.as_mut_slice-2.result.now ≡ length net =
    omega (arith, c.as_mut_slice-2.ensures.len, c.copy_from_slice.auto.self, c.as_mut_slice.ensures.len, c.self.invariant.here, ap (λ (s : SplitOf). length (network_of s.netlist)) c.self.view_is) in
    rw long
    (run-inside net c.args.finding.now.input c.args.start.now c.args.finding.now.settle.steps
    (settle-run net c.args.finding.now.input c.args.start.now right.0 (finding_of c.args.finding.now) right.1))

-- all parts are still for the same network
pub invariant_of-self : goal.invariant_of-self
invariant_of-self c =
    let net = network_of c.self.inside.trial.circuit in
    let room = c.self.inside.here in
    let begun = with_items room c.copy_from_slice.new.self in
    let made = with_items begun c.make_run.new.state in
    let here : (with_items made c.attempt_all.new.here).items ≡ c.attempt_all.new.here =
    with_items_is made c.attempt_all.new.here (omega (arith, c.attempt_all.auto.here, c.as_mut_slice-3.ensures.len)) in
    let long : length c.attempt_all.new.here ≡ length net =
    omega (arith, c.attempt_all.auto.here, c.as_mut_slice-3.ensures.len, c.make_run.auto.state, c.as_mut_slice-2.ensures.len, c.copy_from_slice.auto.self, c.as_mut_slice.ensures.len, c.self.invariant.here) in
    let same : length net ≡ length (network_of c.attempt_all.new.trial.circuit) = ap (λ (n : Netlist). length (network_of n)) (sym c.attempt_all.ensures.circuit) in
    record {
      here = ap (length {A = Bool}) here ∙ (long ∙ same);
      found = ap (λ (f : FoundOf). f.variables) c.attempt_all.ensures.found
          ∙ (attempts-variables net c.args.finding.now.input c.args.finding.now.settle.steps c.args.finding.now.cycle.steps
          (range_with_len 0 (min (length c.args.finding.now.cycle.steps) most_fronts)) c.as_mut_slice-3.result.now c.clear.new.self
          ∙ (c.clear.ensures.room ∙ (c.self.invariant.found ∙ same)));
    }

-- the state after the settle run, in the room that was there
pub returns-clause-found : goal.returns-clause-found
returns-clause-found c =
    let net = network_of c.args.self.now.netlist in
    let input = c.args.finding.now.input in
    let start = c.args.start.now in
    let settle = c.args.finding.now.settle.steps in
    let cycle = c.args.finding.now.cycle.steps in
    let same : c.self.inside.trial.circuit ≡ c.args.self.now.netlist = ap (λ (s : SplitOf). s.netlist) c.self.view_is in
    let none : StandsFor start [] c.clear.new.self = record { runs = c.clear.ensures.runs; ending = subst (λ (runs : List (List (List ℕ))). EndsAs start runs c.clear.new.self.ending) (sym c.clear.ensures.runs) tt } in
    let room = c.self.inside.here in
    let copied : (with_items room c.copy_from_slice.new.self).items ≡ c.copy_from_slice.new.self =
    with_items_is room c.copy_from_slice.new.self (omega (arith, c.copy_from_slice.auto.self, c.as_mut_slice.ensures.len)) in
    let begun : c.as_mut_slice-2.result.now ≡ start = c.as_mut_slice-2.ensures.value ∙ (copied ∙ c.copy_from_slice.ensures.after) in
    let made : (with_items (with_items room c.copy_from_slice.new.self) c.make_run.new.state).items ≡ c.make_run.new.state =
    with_items_is (with_items room c.copy_from_slice.new.self) c.make_run.new.state (omega (arith, c.make_run.auto.state, c.as_mut_slice-2.ensures.len)) in
    let here : c.as_mut_slice-3.result.now ≡ end_of start (settle ++ take 0 cycle) =
    c.as_mut_slice-3.ensures.value ∙ (made ∙ (c.make_run.ensures ∙ (ap (λ (state : List Bool). end_of state settle) begun ∙ ap (end_of start) (sym (append-nil settle))))) in
    ap (λ (f : FoundOf). f.runs) (rw same at c.attempt_all.ensures.found)
    ∙ (stands-all net input start settle cycle (min (length cycle) most_fronts) 0 c.as_mut_slice-3.result.now c.clear.new.self [] (omega arith) here none).runs

pub returns-clause-runs : goal.returns-clause-runs
returns-clause-runs c =
    let netlist = c.args.self.now.netlist in
    let net = network_of netlist in
    let input = c.args.finding.now.input in
    let start = c.args.start.now in
    let right = c.requires.right in
    let finding = finding_of c.args.finding.now in
    let numbers = range_with_len 0 (min (length finding.cycle) most_fronts) in
    let fronts = fronts-run net input start finding.settle finding.cycle numbers (settle-run net input start right.0 finding right.1) (cycle-run net input start right.0 finding right.1) in
    rw (returns-clause-found c) (are-settled netlist input start (attempts net start finding) (attempts-run net input start (map (λ (steps : ℕ). finding.settle ++ take steps finding.cycle) numbers) fronts))
