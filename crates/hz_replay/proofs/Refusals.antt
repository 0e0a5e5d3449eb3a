-- A run is accepted or refused, and never both.
use Rattle.std.proofs.Common.{◌≡◌, refl, subst, ℕ, Bool, List, [], ◌∷◌, ◌++◌, length, get_or, Option, Some, None, IfSome, All, arith}
use Rattle.hz_replay.proofs.Words.{length-append, Netlist, Driver, network_of, IsRun, end_of, IsNontransient, StepFault, RunOf, cycle_steps, RunTextOf, RunRefusal, Step, Cycle}
use Rattle.hz_replay.proofs.Words.{steps_of, IsAcceptedRun, IsRefusedStep, IsRefusedRun, start_of, AreAccepted}
use Rattle.hz_gmw.proofs.Paths.{IsRun-append, IsRun-rest}
use Rattle.hz_gmw.proofs.ReplayLemmas.{step-or-fault, cycle-or-fault}
use Rattle.hz_replay.specs.Replaying.{IsRefusalOfText}

-- no step of a run is refused
run-or-refused : (net : List Driver) (input start : List Bool) (steps : List (List ℕ)) (number : ℕ) (fault : StepFault) → IsRun net input start steps → IsRefusedStep net input start steps number fault → ⊥
run-or-refused net input start steps number fault run r =
    let whole : IsRun net input start (r.before ++ r.flips ∷ r.after) = subst (IsRun net input start) r.whole run in
    let rest = IsRun-rest net input start r.before (r.flips ∷ r.after) whole in
    step-or-fault net input (end_of start r.before) r.flips fault r.refused rest.0

-- the steps of a run that is accepted are a run
whole-run : (net : List Driver) (input start : List Bool) (lead : List (List ℕ)) (cycle : Option (List (List ℕ))) → IsRun net input start lead → IfSome cycle (IsNontransient net input (end_of start lead)) → IsRun net input start (lead ++ cycle_steps cycle)
whole-run net input start lead None run lasts = IsRun-append net input start lead [] run tt
whole-run net input start lead (Some steps) run lasts = IsRun-append net input start lead steps run lasts.cycle.run

-- no run is both
run-accepted-or-refused : (net : List Driver) (input start : List Bool) (run : RunOf) (why : RunRefusal) → IsAcceptedRun net input start run → IsRefusedRun net input start run why → ⊥
run-accepted-or-refused net input start run (Step number fault) accepted refused =
    run-or-refused net input start (steps_of run) number fault (whole-run net input start run.lead run.cycle accepted.lead accepted.cycle) refused
run-accepted-or-refused net input start run (Cycle fault) accepted r =
    let lasts : IsNontransient net input (end_of start run.lead) r.steps = subst (λ (cycle : Option (List (List ℕ))). IfSome cycle (IsNontransient net input (end_of start run.lead))) r.is_cycle accepted.cycle in
    cycle-or-fault net input (end_of start run.lead) r.steps fault r.refused lasts

-- what stands in the middle of a list stands at a place of it
pub middle : {X : Type 0} (before after : List X) (x d : X) → get_or (before ++ x ∷ after) (length before) d ≡ x
middle [] after x d = refl
middle (y ∷ before) after x d = middle before after x d

pub All-middle : {X : Type 0} (P : X → Type 0) (before after : List X) (x : X) → All P (before ++ x ∷ after) → P x
All-middle P before after x all =
    subst P (middle before after x x) (all (length before) x (omega (arith, length-append before (x ∷ after))))

-- no text is both
pub accepted-or-refused : (netlist : Netlist) (value : RunTextOf) (number : ℕ) (why : RunRefusal) → AreAccepted netlist value → IsRefusalOfText netlist value number why → ⊥
accepted-or-refused netlist value number why accepted first =
    let net = network_of netlist in
    let start = start_of netlist value in
    let whole = subst (All (IsAcceptedRun net value.input start)) first.whole accepted in
    run-accepted-or-refused net value.input start first.run why (All-middle (IsAcceptedRun net value.input start) first.before first.after first.run whole) first.is_refused
