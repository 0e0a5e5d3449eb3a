-- The runs of a text, one after the other.
use Rattle.std.proofs.Common.{◌≡◌, ◌∙◌, refl, sym, ap, subst, ℕ, ◌+◌, ◌-◌, ◌<◌, ◌≤◌, Bool, List, ◌∷◌, ◌++◌, length, take, drop, get_or, Option, Some, Result, Ok, Err, MatchResult, All, arith}
use Rattle.hz_replay.proofs.Words.{option_map, length-take-le, length-append, Netlist, Driver, network_of, expansion_of, IsNontransient, Replayer, initial_replayer, RunOf}
use Rattle.hz_replay.proofs.Words.{cycle_steps, RunTextOf, all_steps, RunRefusal, steps_of, total_steps, IsAcceptedRun, IsRefusedRun, IsFirstRefusal, AreVariables, run_of}
use Rattle.hz_replay.proofs.Words.{MakesSteps, no_run, most_steps}
use Rattle.std.specs.List.{flat_map}
use Rattle.std.proofs.lemmas.List.{take_more, get_or-append_right}
use Rattle.std.proofs.lemmas.List.Concat.{get_or-flat_map}
use Rattle.std.proofs.lemmas.List.Folds.{length-flat_map-take}
use Rattle.std.proofs.lemmas.List.Elements.{All-push}
use Rattle.hz_replay.specs.ReplayerSteps.{KeepsInitialState, IsRefusedFrom}
use Rattle.hz_replay.proofs.ReplayerStepLemmas.{cut-at, run-refused}

-- the steps behind others name variables too
behind-variables : (netlist : Netlist) (lead steps : List (List ℕ)) → AreVariables netlist (lead ++ steps) → AreVariables netlist steps
behind-variables netlist lead steps all k d below =
    let at : length lead + k < length (lead ++ steps) = omega (arith, below, length-append lead steps) in
    let is : get_or (lead ++ steps) (length lead + k) d ≡ get_or steps k d =
    get_or-append_right lead steps (length lead) (length lead + k) d refl (omega (arith)) ∙ ap (λ (n : ℕ). get_or steps n d) back in
    subst (All (λ var. var < length (network_of netlist))) is (all (length lead + k) d at)
  where
    back : length lead + k - length lead ≡ k
    back = omega (arith)

-- those of a cycle behind a lead
pub cycle-variables : {T : Type 0} (netlist other : Netlist) (lead : List (List ℕ)) (steps_in : T → List (List ℕ)) (cycle : Option T) (one : T) → cycle ≡ Some one → other ≡ netlist → AreVariables netlist (lead ++ cycle_steps (option_map steps_in cycle)) → AreVariables other (steps_in one)
cycle-variables netlist other lead steps_in cycle one is same all =
    let here = subst (λ (o : Option _). AreVariables netlist (lead ++ cycle_steps (option_map steps_in o))) is all in
    subst (λ (n : Netlist). AreVariables n (steps_in one)) (sym same) (behind-variables netlist lead (steps_in one) here)

-- what comes of a run's cycle comes of the run
pub run-outcome : {T : Type 0} (was now : Replayer) (lead : List (List ℕ)) (steps_in : T → List (List ℕ)) (cycle : Option T) (one : T) (before : ℕ) (result : Result (Unit {0}) RunRefusal) → cycle ≡ Some one → before ≡ length lead → MakesSteps was now lead → MatchResult result (λ done. IsNontransient (network_of now.circuit) now.input now.state (steps_in one)) (λ why. IsRefusedFrom before (network_of now.circuit) now.input now.state (steps_in one) why) → MatchResult result (λ done. IsAcceptedRun (network_of was.circuit) was.input was.state (run_of lead (option_map steps_in cycle))) (λ why. IsRefusedRun (network_of was.circuit) was.input was.state (run_of lead (option_map steps_in cycle)) why)
run-outcome was now lead steps_in cycle one before (Ok done) is long made lasts =
    subst (λ (o : Option _). IsAcceptedRun (network_of was.circuit) was.input was.state (run_of lead (option_map steps_in o))) (sym is)
    record { lead = made.run; cycle = rw (made.begin.circuit, made.begin.input, made.ends) at lasts }
run-outcome was now lead steps_in cycle one before (Err why) is long made refused =
    let here : IsRefusedFrom (length lead) (network_of was.circuit) was.input _ (steps_in one) why = rw (long, made.begin.circuit, made.begin.input, made.ends) at refused in
    subst (λ (o : Option _). IsRefusedRun (network_of was.circuit) was.input was.state (run_of lead (option_map steps_in o)) why) (sym is)
    (run-refused (network_of was.circuit) was.input was.state lead (steps_in one) why made.run here)

-- a run by its parts
pub same-run : (lead : List (List ℕ)) (cycle : Option (List (List ℕ))) (run : RunOf) → lead ≡ run.lead → cycle ≡ run.cycle → run_of lead cycle ≡ run
same-run lead cycle run first second = ap (λ (l : List (List ℕ)). run_of l cycle) first ∙ ap (λ (o : Option (List (List ℕ))). run_of run.lead o) second

-- the steps of a run name variables, where those of all runs do
pub run-variables : (netlist other : Netlist) (runs : List RunOf) (number : ℕ) (run : RunOf) → run ≡ get_or runs number no_run → number < length runs → other ≡ netlist → AreVariables netlist (all_steps runs) → AreVariables other (steps_of run)
run-variables netlist other runs number run is below same all =
    subst (λ (n : Netlist). AreVariables n (steps_of run)) (sym same) (subst (λ (r : RunOf). AreVariables netlist (steps_of r)) (sym is) here)
  where
    here : AreVariables netlist (steps_of (get_or runs number no_run))
    here k d within =
        let place = length (flat_map steps_of (take number runs)) + k in
        let at : place < length (flat_map steps_of runs) = omega (arith, within, length-flat_map-take steps_of runs number no_run below) in
        subst (All (λ var. var < length (network_of netlist))) (get_or-flat_map steps_of runs number k no_run d below within) (all place d at)

-- and there are no more of them
pub run-few : (runs : List RunOf) (number : ℕ) (run : RunOf) → run ≡ get_or runs number no_run → number < length runs → total_steps runs ≤ most_steps → length (steps_of run) ≤ most_steps
run-few runs number run is below few =
    omega (arith, ap (λ (r : RunOf). length (steps_of r)) is, length-flat_map-take steps_of runs number no_run below, few)

-- what is said of a replayer that begins again is said of what it was given
pub begun-again : (P : List Driver → List Bool → List Bool → Type 0) (netlist : Netlist) (input start : List Bool) (was now : Replayer) → KeepsInitialState (initial_replayer netlist input start) was → now ≡ initial_replayer was.circuit was.input was.begun → P (network_of now.circuit) now.input now.state → P (network_of netlist) input start
begun-again P netlist input start was now kept at holds =
    let circuit : now.circuit ≡ netlist = ap (λ (r : Replayer). r.circuit) at ∙ kept.circuit in
    let under : now.input ≡ input = ap (λ (r : Replayer). r.input) at ∙ kept.input in
    let state : now.state ≡ start = ap (λ (r : Replayer). r.state) at ∙ kept.begun in
    rw (circuit, under, state) at holds

-- and it may begin once more
pub kept-again : (netlist : Netlist) (input start : List Bool) (was now next : Replayer) → KeepsInitialState (initial_replayer netlist input start) was → now ≡ initial_replayer was.circuit was.input was.begun → KeepsInitialState now next → KeepsInitialState (initial_replayer netlist input start) next
kept-again netlist input start was now next kept at onward = record {
  circuit = onward.circuit ∙ (ap (λ (r : Replayer). r.circuit) at ∙ kept.circuit);
  input = onward.input ∙ (ap (λ (r : Replayer). r.input) at ∙ kept.input);
  begun = onward.begun ∙ (ap (λ (r : Replayer). r.begun) at ∙ kept.begun);
}

-- one more run is accepted
pub accepted-more : (net : List Driver) (input start : List Bool) (runs : List RunOf) (number : ℕ) (run : RunOf) → run ≡ get_or runs number no_run → number < length runs → All (IsAcceptedRun net input start) (take number runs) → IsAcceptedRun net input start run → All (IsAcceptedRun net input start) (take (number + 1) runs)
accepted-more net input start runs number run is below all accepted =
    subst (All (IsAcceptedRun net input start)) (sym (take_more runs number no_run below))
    (All-push (IsAcceptedRun net input start) (take number runs) (get_or runs number no_run) all (subst (IsAcceptedRun net input start) is accepted))

-- the first run that is refused
pub first-refused : (net : List Driver) (input start : List Bool) (runs : List RunOf) (number : ℕ) (run : RunOf) (why : RunRefusal) → run ≡ get_or runs number no_run → number < length runs → All (IsAcceptedRun net input start) (take number runs) → IsRefusedRun net input start run why → IsFirstRefusal net input start runs (number + 1) why
first-refused net input start runs number run why is below all refused = record {
  before = take number runs;
  run = run;
  after = drop (number + 1) runs;
  whole = cut-at runs number no_run below ∙ ap (λ (r : RunOf). take number runs ++ r ∷ drop (number + 1) runs) (sym is);
  place = omega (arith, length-take-le number runs, below);
  accepted = all;
  is_refused = refused;
}

-- what is said of the replayer's circuit and start is said of the text's
pub of-text : (P : List Driver → List Bool → Type 0) (netlist : Netlist) (value : RunTextOf) (replay : Replayer) (start : List Bool) → replay.circuit ≡ netlist → start ≡ expansion_of netlist value.nodes → P (network_of replay.circuit) start → P (network_of netlist) (expansion_of netlist value.nodes)
of-text P netlist value replay start circuit is holds = rw (circuit, is) at holds
