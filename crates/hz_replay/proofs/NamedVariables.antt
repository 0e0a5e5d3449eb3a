-- A variable that the first refusal of a run text names is one of the network.
use Rattle.std.proofs.Common.{◌≡◌, ◌≢◌, ◌∙◌, refl, sym, subst, ℕ, ◌<◌, inl, inr, Bool, false, List, ◌∷◌, ◌++◌, length, All, arith}
use Rattle.hz_replay.proofs.Words.{cases_lt, length-append, Netlist, network_of, bit_at, end_of, IsStepFault, IsCycleFault, StepFault, CycleFault, IsRunTextFor, RunOf, RunTextOf}
use Rattle.hz_replay.proofs.Words.{all_steps, RunRefusal, Step, Cycle, steps_of, IsRefusedRun, IsFirstRefusal, AreVariables, no_run}
use Rattle.std.proofs.lemmas.List.{get_or_past}
use Rattle.hz_gmw.specs.declared.replay_fault.StepFault.TheVariants.{Empty, Repeated, Stable}
use Rattle.hz_gmw.specs.declared.replay_fault.CycleFault.TheVariants.{Differs, NotStable, Transient}
use Rattle.hz_gmw.proofs.CoverB.{length-end_of}
use Rattle.hz_lists.proofs.ListedLemmas.{All-listed}
use Rattle.hz_gmw.proofs.LeastLemmas.{times_listed-listed}
use Rattle.hz_replay.specs.Named.{step_variable, cycle_variable, named_variable, NamesVariable}
use Rattle.hz_replay.proofs.RunSteps.{run-variables}
use Rattle.hz_replay.proofs.Refusals.{middle, All-middle}

-- what a step repeats, or names though it is stable, is listed in it
step-variable : (netlist : Netlist) (input state : List Bool) (flips : List ℕ) (fault : StepFault) → All (λ var. var < length (network_of netlist)) flips → IsStepFault (network_of netlist) input state flips fault → NamesVariable netlist (step_variable fault)
step-variable netlist input state flips Empty all empty = tt
step-variable netlist input state flips (Repeated var) all least =
    All-listed (λ i. i < length (network_of netlist)) flips var all (times_listed-listed var flips (omega (arith, least.here)))
step-variable netlist input state flips (Stable var) all (once, least) =
    All-listed (λ i. i < length (network_of netlist)) flips var all least.here.0

-- two states differ inside
differs-inside : (first second : List Bool) (n var : ℕ) → length first ≡ n → length second ≡ n → bit_at first var ≢ bit_at second var → var < n
differs-inside first second n var long also differs = elim (cases_lt var n) [
  | inl below ↦ below
  | inr past ↦ absurd (differs (get_or_past first var false (omega (arith, past, long)) ∙ sym (get_or_past second var false (omega (arith, past, also)))))
]

-- what differs around a cycle lies inside the state; what is unstable or waits is a variable by definition
cycle-variable : (netlist : Netlist) (input state : List Bool) (steps : List (List ℕ)) (fault : CycleFault) → length state ≡ length (network_of netlist) → IsCycleFault (network_of netlist) input state steps fault → cycle_variable fault < length (network_of netlist)
cycle-variable netlist input state steps (Differs var) long least =
    differs-inside (end_of state steps) state (length (network_of netlist)) var (length-end_of state steps ∙ long) long least.here
cycle-variable netlist input state steps (NotStable var) long (none, least) = least.here.0
cycle-variable netlist input state steps (Transient var) long (closed, some, least) = least.here.0

-- the variable that the refusal of a run names
run-variable : (netlist : Netlist) (input start : List Bool) (run : RunOf) (why : RunRefusal) → length start ≡ length (network_of netlist) → AreVariables netlist (steps_of run) → IsRefusedRun (network_of netlist) input start run why → NamesVariable netlist (named_variable why)
run-variable netlist input start run (Step number fault) long all r =
    step-variable netlist input (end_of start r.before) r.flips fault
    (All-middle (All (λ var. var < length (network_of netlist))) r.before r.after r.flips (subst (AreVariables netlist) r.whole all)) r.refused
run-variable netlist input start run (Cycle fault) long all r =
    cycle-variable netlist input (end_of start run.lead) r.steps fault (length-end_of start run.lead ∙ long) r.refused

-- the steps of a run among others
among : (netlist : Netlist) (before after : List RunOf) (run : RunOf) → AreVariables netlist (all_steps (before ++ run ∷ after)) → AreVariables netlist (steps_of run)
among netlist before after run all =
    run-variables netlist netlist (before ++ run ∷ after) (length before) run (sym (middle before after run no_run))
    (omega (arith, length-append before (run ∷ after))) refl all

-- the variable that the first refusal names
pub refusal-variable : (netlist : Netlist) (value : RunTextOf) (start : List Bool) (number : ℕ) (why : RunRefusal) → IsRunTextFor netlist value → length start ≡ length (network_of netlist) → IsFirstRefusal (network_of netlist) value.input start value.runs number why → NamesVariable netlist (named_variable why)
refusal-variable netlist value start number why usable long first =
    run-variable netlist value.input start first.run why long
    (among netlist first.before first.after first.run (subst (λ (runs : List RunOf). AreVariables netlist (all_steps runs)) first.whole usable.variables))
    first.is_refused
