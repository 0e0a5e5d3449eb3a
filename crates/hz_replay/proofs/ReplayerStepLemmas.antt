-- What the steps of a run make of a replayer, and where they are refused.
use Rattle.std.proofs.Common.{◌≡◌, ◌∙◌, refl, sym, ap, subst, ℕ, ◌+◌, ◌<◌, Bool, List, [], ◌∷◌, ◌++◌, length, take, drop, get_or, Some, arith}
use Rattle.hz_replay.proofs.Words.{length-take-le, length-append, Driver, network_of, IsStep, IsRun, state_after, end_of, IsNontransient, Replayer, IsStepFault, IsCycleFault}
use Rattle.hz_replay.proofs.Words.{StepFault, CycleFault, RunRefusal, Step, Cycle, IsRefusedStep, IsRefusedRun, run_of, MakesSteps}
use Rattle.std.proofs.lemmas.List.{take_more, take-append-drop, append-nil, append_assoc}
use Rattle.hz_gmw.specs.Replayer.{StandsFor, replayer_at, replayer_after}
use Rattle.hz_gmw.proofs.Paths.{end_of-append, IsRun-append}
use Rattle.hz_replay.specs.ReplayerSteps.{IsRefusedFrom}

-- a list is what stands before a place, what stands there, and what stands behind it
pub cut-at : {X : Type 0} (list : List X) (i : ℕ) (d : X) → i < length list → list ≡ take i list ++ get_or list i d ∷ drop (i + 1) list
cut-at list i d below =
    sym (take-append-drop (i + 1) list)
    ∙ (ap (λ front. front ++ drop (i + 1) list) (take_more list i d below) ∙ append_assoc (take i list) (get_or list i d ∷ []) (drop (i + 1) list))

-- before the first step nothing was made
pub made-none : (was : Replayer) → MakesSteps was was []
made-none was = record {
  run = tt;
  begin = record { circuit = refl; input = refl; begun = refl };
  marked = refl;
  ends = refl;
  stands = λ earlier stands. subst (StandsFor was) (sym (append-nil earlier)) stands;
}

-- one step more
pub made-more : (was now next : Replayer) (steps : List (List ℕ)) (i : ℕ) (flips : List ℕ) → i < length steps → flips ≡ get_or steps i [] → MakesSteps was now (take i steps) → IsStep (network_of now.circuit) now.input now.state flips → next ≡ replayer_after now flips → ((earlier : List (List ℕ)) → StandsFor now earlier → StandsFor next (earlier ++ flips ∷ [])) → MakesSteps was next (take (i + 1) steps)
made-more was now next steps i flips below is made step after stands =
    let more : take (i + 1) steps ≡ take i steps ++ flips ∷ [] = take_more steps i [] below ∙ ap (λ (x : List ℕ). take i steps ++ x ∷ []) (sym is) in
    let here : IsStep (network_of was.circuit) was.input (end_of was.state (take i steps)) flips = rw (made.begin.circuit, made.begin.input, made.ends) at step in
    let run : IsRun (network_of was.circuit) was.input was.state (take i steps ++ flips ∷ []) =
    IsRun-append (network_of was.circuit) was.input was.state (take i steps) (flips ∷ []) made.run (here, tt) in
    let ends : next.state ≡ end_of was.state (take i steps ++ flips ∷ []) =
    ap (λ (r : Replayer). r.state) after ∙ (ap (state_after flips) made.ends ∙ sym (end_of-append was.state (take i steps) (flips ∷ []))) in
    subst (MakesSteps was next) (sym more) record {
      run = run;
      begin = record {
        circuit = ap (λ (r : Replayer). r.circuit) after ∙ made.begin.circuit;
        input = ap (λ (r : Replayer). r.input) after ∙ made.begin.input;
        begun = ap (λ (r : Replayer). r.begun) after ∙ made.begin.begun;
      };
      marked = ap (λ (r : Replayer). r.marked) after ∙ made.marked;
      ends = ends;
      stands = λ earlier first. subst (StandsFor next) (append_assoc earlier (take i steps) (flips ∷ [])) (stands (earlier ++ take i steps) (made.stands earlier first));
    }

-- the step after those that were made is refused
pub refused-next : (was now : Replayer) (steps : List (List ℕ)) (i : ℕ) (flips : List ℕ) (fault : StepFault) → i < length steps → flips ≡ get_or steps i [] → MakesSteps was now (take i steps) → IsStepFault (network_of now.circuit) now.input now.state flips fault → IsRefusedStep (network_of was.circuit) was.input was.state steps (i + 1) fault
refused-next was now steps i flips fault below is made refused = record {
  before = take i steps;
  flips = flips;
  after = drop (i + 1) steps;
  whole = cut-at steps i [] below ∙ ap (λ (x : List ℕ). take i steps ++ x ∷ drop (i + 1) steps) (sym is);
  place = omega (arith, length-take-le i steps, below);
  run = made.run;
  refused = rw (made.begin.circuit, made.begin.input, made.ends) at refused;
}

-- a step that is refused in a prefix of some steps is refused in the whole
pub refused-before : (net : List Driver) (input start : List Bool) (steps more : List (List ℕ)) (number : ℕ) (fault : StepFault) → IsRefusedStep net input start steps number fault → IsRefusedStep net input start (steps ++ more) number fault
refused-before net input start steps more number fault r = record {
  before = r.before;
  flips = r.flips;
  after = r.after ++ more;
  whole = ap (λ (list : List (List ℕ)). list ++ more) r.whole ∙ append_assoc r.before (r.flips ∷ r.after) more;
  place = r.place;
  run = r.run;
  refused = r.refused;
}

-- a step that is refused behind a run is refused in the whole
pub refused-behind : (net : List Driver) (input start : List Bool) (lead steps : List (List ℕ)) (number own : ℕ) (fault : StepFault) → IsRun net input start lead → number ≡ length lead + own → IsRefusedStep net input (end_of start lead) steps own fault → IsRefusedStep net input start (lead ++ steps) number fault
refused-behind net input start lead steps number own fault run is r = record {
  before = lead ++ r.before;
  flips = r.flips;
  after = r.after;
  whole = ap (λ (list : List (List ℕ)). lead ++ list) r.whole ∙ sym (append_assoc lead r.before (r.flips ∷ r.after));
  place = omega (arith, is, r.place, length-append lead r.before);
  run = IsRun-append net input start lead r.before run r.run;
  refused = subst (λ (state : List Bool). IsStepFault net input state r.flips fault) (sym (end_of-append start lead r.before)) r.refused;
}

-- a run whose cycle is refused is refused
pub run-refused : (net : List Driver) (input start : List Bool) (lead steps : List (List ℕ)) (why : RunRefusal) → IsRun net input start lead → IsRefusedFrom (length lead) net input (end_of start lead) steps why → IsRefusedRun net input start (run_of lead (Some steps)) why
run-refused net input start lead steps (Step number fault) run (own, is, refused) =
    refused-behind net input start lead steps number own fault run is refused
run-refused net input start lead steps (Cycle fault) run (onward, refused) = record {
  steps = steps;
  is_cycle = refl;
  all_steps = IsRun-append net input start lead steps run onward;
  refused = refused;
}

-- a cycle from a state that was marked
pub cycle-accepted : (was start now : Replayer) (steps : List (List ℕ)) → start ≡ replayer_at was.circuit was.input was.begun was.state → MakesSteps start now steps → IsNontransient (network_of now.circuit) now.input now.marked steps → IsNontransient (network_of was.circuit) was.input was.state steps
cycle-accepted was start now steps at made lasts =
    let circuit : now.circuit ≡ was.circuit = made.begin.circuit ∙ ap (λ (r : Replayer). r.circuit) at in
    let input : now.input ≡ was.input = made.begin.input ∙ ap (λ (r : Replayer). r.input) at in
    let marked : now.marked ≡ was.state = made.marked ∙ ap (λ (r : Replayer). r.marked) at in
    rw (circuit, input, marked) at lasts

pub cycle-refused : (was start now : Replayer) (steps : List (List ℕ)) (fault : CycleFault) → start ≡ replayer_at was.circuit was.input was.begun was.state → MakesSteps start now steps → IsCycleFault (network_of now.circuit) now.input now.marked steps fault → IsRun (network_of was.circuit) was.input was.state steps × IsCycleFault (network_of was.circuit) was.input was.state steps fault
cycle-refused was start now steps fault at made refused =
    let circuit : now.circuit ≡ was.circuit = made.begin.circuit ∙ ap (λ (r : Replayer). r.circuit) at in
    let input : now.input ≡ was.input = made.begin.input ∙ ap (λ (r : Replayer). r.input) at in
    let marked : now.marked ≡ was.state = made.marked ∙ ap (λ (r : Replayer). r.marked) at in
    (subst (λ (r : Replayer). IsRun (network_of r.circuit) r.input r.state steps) at made.run, rw (circuit, input, marked) at refused)
