-- One of both holds: a list of variables is a step or has a fault, a run is a nontransient cycle or has one, and so a run text
-- of a network is accepted or refused.
use Rattle.std.proofs.Common.{◌≡◌, ◌≢◌, ◌∙◌, refl, sym, ap, subst, ℕ, zero, suc, ◌+◌, ◌<◌, ◌≤◌, ◌⊎◌, inl, inr, Bool, true, false, not, List, [], ◌∷◌, ◌++◌, length, replicate, Option, Some, None, IsTrue, All, arith}
use Rattle.hz_replay.proofs.Words.{cases_lt, length-append, All-nil, All-cons, Netlist, Driver, network_of, bit_at, state_after, IsStep, IsRun, end_of, IsNontransient, Replayer}
use Rattle.hz_replay.proofs.Words.{initial_replayer, IsStepFault, IsCycleFault, StepFault, CycleFault, IsRunTextFor, RunOf, cycle_steps, RunTextOf, all_steps, RunRefusal, Step}
use Rattle.hz_replay.proofs.Words.{Cycle, steps_of, IsAcceptedRun, IsRefusedStep, IsRefusedRun, IsFirstRefusal, start_of, AreAccepted, AreVariables, run_of}
use Rattle.std.specs.Bool.{beq}
use Rattle.std.proofs.lemmas.Bool.{false≢true, not-true, not_from_false, false_from_ne_true}
use Rattle.std.proofs.lemmas.List.{append-nil, append_assoc, get_or_past, length-replicate, get_or_append_left}
use Rattle.std.proofs.lemmas.List.Elements.{All-head, All-tail}
use Rattle.hz_core.specs.Netlist.{IsCircuit}
use Rattle.hz_net.specs.Network.{IsUnstable}
use Rattle.hz_lists.specs.Listed.{is_listed}
use Rattle.hz_gmw.specs.Instability.{is_unstable, unstable_variables}
use Rattle.hz_lists.specs.Least.{IsLeastOf}
use Rattle.hz_gmw.specs.LeastListed.{least_from, least_repeat}
use Rattle.hz_gmw.specs.Replayer.{StandsFor, replayer_after}
use Rattle.hz_gmw.specs.ReplayFaults.{times_listed}
use Rattle.hz_gmw.specs.declared.replay_fault.StepFault.TheVariants.{Empty, Repeated, Stable}
use Rattle.hz_gmw.specs.declared.replay_fault.CycleFault.TheVariants.{Differs, NotStable, Transient}
use Rattle.hz_gmw.proofs.Flips.{length-state_after}
use Rattle.hz_gmw.proofs.CoverB.{length-end_of}
use Rattle.hz_gmw.proofs.Paths.{IsRun-front, IsRun-rest}
use Rattle.hz_net.proofs.Places.{length-expansion_of}
use Rattle.hz_replay.specs.Replaying.{IsRefusalOfText}
use Rattle.hz_gmw.proofs.Bits.{beq-same, beq-refl}
use Rattle.hz_lists.proofs.LeastLemmas.{IsLeastOf-same}
use Rattle.hz_gmw.proofs.LeastLemmas.{least-listed, least-repeated}
use Rattle.hz_gmw.proofs.ReplayLemmas.{at-unstable_variables, unstable-true, true-unstable, none-marked, step-by, stable-fault, stands-at, stands-step, differs-fault, closed-by, not-stable-fault, stable-cycle, transient-fault, moving-cycle}

-- a list is a step, or has a fault
abbrev StepDecided : List Driver → List Bool → List Bool → List ℕ → Type 0
StepDecided net input state flips =
    IsStep net input state flips ⊎ ((fault : StepFault) × IsStepFault net input state flips fault)

by-stable : (net : List Driver) (input state : List Bool) (flips : List ℕ) → All (λ var. var < length net) flips → flips ≢ [] → ((i : ℕ) → 2 ≤ times_listed flips i → ⊥) → (found : Option ℕ) → IsLeastOf (λ i. IsTrue (is_listed flips i) × IsTrue (not (bit_at (unstable_variables net input state) i))) found → StepDecided net input state flips
by-stable net input state flips all some once None none =
    inl (step-by net input state (unstable_variables net input state) flips all (at-unstable_variables net input state) some once none)
by-stable net input state flips all some once (Some var) least =
    inr (Stable var, stable-fault net input state (unstable_variables net input state) flips var all (at-unstable_variables net input state) once least)

by-repeats : (net : List Driver) (input state : List Bool) (flips : List ℕ) → All (λ var. var < length net) flips → flips ≢ [] → (found : Option ℕ) → IsLeastOf (λ i. 2 ≤ times_listed flips i) found → StepDecided net input state flips
by-repeats net input state flips all some None none =
    let test : ℕ → Bool = λ var. not (bit_at (unstable_variables net input state) var) in
    by-stable net input state flips all some none (least_from None test flips) (least-listed test flips)
by-repeats net input state flips all some (Some var) least = inr (Repeated var, least)

pub step-decided : (net : List Driver) (input state : List Bool) (flips : List ℕ) → All (λ var. var < length net) flips → StepDecided net input state flips
step-decided net input state [] all = inr (Empty, refl)
step-decided net input state (var ∷ rest) all =
    let named : List Bool = replicate (length net) false in
    let long : length named ≡ length net = length-replicate (length net) false in
    by-repeats net input state (var ∷ rest) all (λ e. cc) (least_repeat None named (var ∷ rest))
    (least-repeated (var ∷ rest) named (none-marked named (length net) refl) (subst (λ (n : ℕ). All (λ i. i < n) (var ∷ rest)) (sym long) all))

-- the least number below a bound that passes a test
extended : (test : ℕ → Bool) (n : ℕ) (passes : Bool) → test n ≡ passes → (found : Option ℕ) → IsLeastOf (λ i. (i < n) × IsTrue (test i)) found → (new : Option ℕ) × IsLeastOf (λ i. (i < suc n) × IsTrue (test i)) new
extended test n passes is (Some i) least = (
  Some i,
  record {
    here = (omega (arith, least.here.0), least.here.1);
    least = λ j h. elim (cases_lt j n) [
      | inl below ↦ least.least j (below, h.1)
      | inr past ↦ omega (arith, past, least.here.0)
    ];
  },
)
extended test n true is None none = (
  Some n,
  record {
    here = (omega (arith), is);
    least = λ j h. elim (cases_lt j n) [
      | inl below ↦ absurd (none j (below, h.1))
      | inr past ↦ past
    ];
  },
)
extended test n false is None none = (
  None,
  λ i h. elim (cases_lt i n) [
    | inl below ↦ none i (below, h.1)
    | inr past ↦
        let same : i ≡ n = omega (arith, past, h.0) in
        false≢true (sym is ∙ (ap test (sym same) ∙ h.1))
  ],
)

least-below : (test : ℕ → Bool) (n : ℕ) → (found : Option ℕ) × IsLeastOf (λ i. (i < n) × IsTrue (test i)) found
least-below test zero = (None, λ i h. let none : ⊥ = omega (arith, h.0) in none)
least-below test (suc n) =
    let before = least-below test n in
    extended test n (test n) refl before.0 before.1

-- a run is a nontransient cycle, or has a fault
abbrev CycleDecided : List Driver → List Bool → List Bool → List (List ℕ) → Type 0
CycleDecided net input state steps =
    IsNontransient net input state steps ⊎ ((fault : CycleFault) × IsCycleFault net input state steps fault)

by-unstable : (now : Replayer) (steps : List (List ℕ)) → StandsFor now steps → now.state ≡ now.marked → now.stepped ≡ false → (found : Option ℕ) → IsLeastOf (λ i. (i < length (network_of now.circuit)) × IsUnstable (network_of now.circuit) now.input now.state i) found → CycleDecided (network_of now.circuit) now.input now.marked steps
by-unstable now steps stands closed resting None none = inl (stable-cycle now steps stands closed resting none)
by-unstable now steps stands closed resting (Some var) least = inr (NotStable var, not-stable-fault now steps var stands closed resting least)

by-watched : (now : Replayer) (steps : List (List ℕ)) → StandsFor now steps → now.state ≡ now.marked → now.stepped ≡ true → (found : Option ℕ) → IsLeastOf (λ i. (i < length (network_of now.circuit)) × IsTrue (bit_at now.watched i)) found → CycleDecided (network_of now.circuit) now.input now.marked steps
by-watched now steps stands closed moving None none = inl (moving-cycle now steps stands closed moving none)
by-watched now steps stands closed moving (Some var) least = inr (Transient var, transient-fault now steps var stands closed moving least)

by-stepped : (now : Replayer) (steps : List (List ℕ)) → StandsFor now steps → now.state ≡ now.marked → (stepped : Bool) → now.stepped ≡ stepped → CycleDecided (network_of now.circuit) now.input now.marked steps
by-stepped now steps stands closed true is =
    let found = least-below (bit_at now.watched) (length (network_of now.circuit)) in
    by-watched now steps stands closed is found.0 found.1
by-stepped now steps stands closed false is =
    let net = network_of now.circuit in
    let found = least-below (is_unstable net now.input now.state) (length net) in
    let least = IsLeastOf-same (λ i. (i < length net) × IsTrue (is_unstable net now.input now.state i)) (λ i. (i < length net) × IsUnstable net now.input now.state i) found.0
    (λ i h. (h.0, unstable-true net now.input now.state i h.1)) (λ i h. (h.0, true-unstable net now.input now.state i h.1)) found.1 in
    by-unstable now steps stands closed is found.0 least

by-differs : (now : Replayer) (steps : List (List ℕ)) → StandsFor now steps → (found : Option ℕ) → IsLeastOf (λ i. bit_at now.state i ≢ bit_at now.marked i) found → CycleDecided (network_of now.circuit) now.input now.marked steps
by-differs now steps stands None none = by-stepped now steps stands (closed-by now steps stands none) now.stepped refl
by-differs now steps stands (Some var) least = inr (Differs var, differs-fault now steps var stands least)

-- two states of one length differ only at their places
differ-inside : (state marked : List Bool) (i : ℕ) → length state ≡ length marked → bit_at state i ≢ bit_at marked i → i < length state
differ-inside state marked i long differ = elim (cases_lt i (length state)) [
  | inl below ↦ below
  | inr past ↦ absurd (differ (get_or_past state i false past ∙ sym (get_or_past marked i false (omega (arith, past, long)))))
]

standing-decided : (now : Replayer) (steps : List (List ℕ)) → StandsFor now steps → CycleDecided (network_of now.circuit) now.input now.marked steps
standing-decided now steps stands =
    let test : ℕ → Bool = λ i. not (beq (bit_at now.state i) (bit_at now.marked i)) in
    let long : length now.state ≡ length now.marked = ap (length {A = Bool}) (sym stands.ends) ∙ length-end_of now.marked steps in
    let found = least-below test (length now.state) in
    let least = IsLeastOf-same (λ i. (i < length now.state) × IsTrue (test i)) (λ i. bit_at now.state i ≢ bit_at now.marked i) found.0
    (λ i h e. false≢true (sym (not-true (beq (bit_at now.state i) (bit_at now.marked i)) h.1) ∙ (ap (beq (bit_at now.state i)) (sym e) ∙ beq-refl (bit_at now.state i))))
    (λ i differ. (differ-inside now.state now.marked i long differ, not_from_false (beq (bit_at now.state i) (bit_at now.marked i)) (false_from_ne_true (beq (bit_at now.state i) (bit_at now.marked i)) (λ e. differ (beq-same (bit_at now.state i) (bit_at now.marked i) e)))))
    found.1 in
    by-differs now steps stands found.0 least

-- a replayer that a run leads to
record Led (was : Replayer) (steps : List (List ℕ)) : Type 0 where
  now : Replayer
  circuit : now.circuit ≡ was.circuit
  input : now.input ≡ was.input
  marked : now.marked ≡ was.marked
  stands : StandsFor now steps

led : (was : Replayer) (earlier steps : List (List ℕ)) → length was.state ≡ length (network_of was.circuit) → StandsFor was earlier → IsRun (network_of was.circuit) was.input was.state steps → Led was (earlier ++ steps)
led was earlier [] long stands run =
    record { now = was; circuit = refl; input = refl; marked = refl; stands = subst (StandsFor was) (sym (append-nil earlier)) stands }
led was earlier (flips ∷ steps) long stands run =
    let next = led (replayer_after was flips) (earlier ++ flips ∷ []) steps (length-state_after flips was.state ∙ long) (stands-step was flips earlier long stands run.0) run.1 in
    record {
      now = next.now;
      circuit = next.circuit;
      input = next.input;
      marked = next.marked;
      stands = subst (StandsFor next.now) (append_assoc earlier (flips ∷ []) steps) next.stands;
    }

pub cycle-decided : (netlist : Netlist) (input state : List Bool) (steps : List (List ℕ)) → length state ≡ length (network_of netlist) → IsRun (network_of netlist) input state steps → CycleDecided (network_of netlist) input state steps
cycle-decided netlist input state steps long run =
    let one = led (initial_replayer netlist input state) [] steps long (stands-at netlist input state state) run in
    rw (one.circuit, one.input, one.marked) at (standing-decided one.now steps one.stands)

-- steps of variables are a run, or one of them is refused
pub steps-decided : (net : List Driver) (input start : List Bool) (steps : List (List ℕ)) → All (λ flips. All (λ var. var < length net) flips) steps → IsRun net input start steps ⊎ ((number : ℕ) × (fault : StepFault) × IsRefusedStep net input start steps number fault)
steps-decided net input start [] all = inl tt
steps-decided net input start (flips ∷ steps) all =
    onward (step-decided net input start flips (All-head (λ flips. All (λ var. var < length net) flips) flips steps all)) (steps-decided net input (state_after flips start) steps (All-tail (λ flips. All (λ var. var < length net) flips) flips steps all))
  where
    onward : StepDecided net input start flips → IsRun net input (state_after flips start) steps ⊎ ((number : ℕ) × (fault : StepFault) × IsRefusedStep net input (state_after flips start) steps number fault) → IsRun net input start (flips ∷ steps) ⊎ ((number : ℕ) × (fault : StepFault) × IsRefusedStep net input start (flips ∷ steps) number fault)
    onward (inr (fault, refused)) later =
        inr (1, fault, record { before = []; flips = flips; after = steps; whole = refl; place = refl; run = tt; refused = refused })
    onward (inl step) (inl run) = inl (step, run)
    onward (inl step) (inr (number, fault, r)) =
        inr (
          number + 1,
          fault,
          record {
            before = flips ∷ r.before;
            flips = r.flips;
            after = r.after;
            whole = ap (λ (list : List (List ℕ)). flips ∷ list) r.whole;
            place = omega (arith, r.place);
            run = (step, r.run);
            refused = r.refused;
          },
        )

-- a run of a text is accepted, or refused
abbrev RunDecided : List Driver → List Bool → List Bool → RunOf → Type 0
RunDecided net input start run =
    IsAcceptedRun net input start run ⊎ ((why : RunRefusal) × IsRefusedRun net input start run why)

by-cycle : (net : List Driver) (input start : List Bool) (lead steps : List (List ℕ)) → IsRun net input start (lead ++ steps) → CycleDecided net input (end_of start lead) steps → RunDecided net input start (run_of lead (Some steps))
by-cycle net input start lead steps run (inl lasts) = inl record { lead = IsRun-front net input start lead steps run; cycle = lasts }
by-cycle net input start lead steps run (inr (fault, refused)) =
    inr (Cycle fault, record { steps = steps; is_cycle = refl; all_steps = run; refused = refused })

by-steps : (netlist : Netlist) (input start : List Bool) (lead : List (List ℕ)) (cycle : Option (List (List ℕ))) → length start ≡ length (network_of netlist) → IsRun (network_of netlist) input start (lead ++ cycle_steps cycle) ⊎ ((number : ℕ) × (fault : StepFault) × IsRefusedStep (network_of netlist) input start (lead ++ cycle_steps cycle) number fault) → RunDecided (network_of netlist) input start (run_of lead cycle)
by-steps netlist input start lead cycle long (inr (number, fault, refused)) = inr (Step number fault, refused)
by-steps netlist input start lead None long (inl run) = inl record { lead = IsRun-front (network_of netlist) input start lead [] run; cycle = tt }
by-steps netlist input start lead (Some steps) long (inl run) =
    by-cycle (network_of netlist) input start lead steps run
    (cycle-decided netlist input (end_of start lead) steps (length-end_of start lead ∙ long) (IsRun-rest (network_of netlist) input start lead steps run))

pub run-decided : (netlist : Netlist) (input start : List Bool) (run : RunOf) → length start ≡ length (network_of netlist) → AreVariables netlist (steps_of run) → RunDecided (network_of netlist) input start run
run-decided netlist input start run long all =
    by-steps netlist input start run.lead run.cycle long (steps-decided (network_of netlist) input start (steps_of run) all)

-- what holds of all of two lists holds of all of each
All-left : (P : List ℕ → Type 0) (xs ys : List (List ℕ)) → All P (xs ++ ys) → All P xs
All-left P xs ys all k d below =
    subst P (get_or_append_left xs ys d k below) (all k d (omega (arith, below, length-append xs ys)))

All-right : (P : List ℕ → Type 0) (xs ys : List (List ℕ)) → All P (xs ++ ys) → All P ys
All-right P [] ys all = all
All-right P (x ∷ xs) ys all = All-right P xs ys (All-tail P x (xs ++ ys) all)

-- the runs of a text are accepted, or there is a first refusal
abbrev RunsDecided : List Driver → List Bool → List Bool → List RunOf → Type 0
RunsDecided net input start runs =
    All (IsAcceptedRun net input start) runs ⊎ ((number : ℕ) × (why : RunRefusal) × IsFirstRefusal net input start runs number why)

after-run : (net : List Driver) (input start : List Bool) (run : RunOf) (runs : List RunOf) → RunDecided net input start run → RunsDecided net input start runs → RunsDecided net input start (run ∷ runs)
after-run net input start run runs (inr (why, refused)) later =
    inr (1, why, record { before = []; run = run; after = runs; whole = refl; place = refl; accepted = All-nil (IsAcceptedRun net input start); is_refused = refused })
after-run net input start run runs (inl accepted) (inl all) = inl (All-cons (IsAcceptedRun net input start) run runs accepted all)
after-run net input start run runs (inl accepted) (inr (number, why, r)) =
    inr (
      number + 1,
      why,
      record {
        before = run ∷ r.before;
        run = r.run;
        after = r.after;
        whole = ap (λ (list : List RunOf). run ∷ list) r.whole;
        place = omega (arith, r.place);
        accepted = All-cons (IsAcceptedRun net input start) run r.before accepted r.accepted;
        is_refused = r.is_refused;
      },
    )

runs-decided : (netlist : Netlist) (input start : List Bool) (runs : List RunOf) → length start ≡ length (network_of netlist) → AreVariables netlist (all_steps runs) → RunsDecided (network_of netlist) input start runs
runs-decided netlist input start [] long all = inl (All-nil (IsAcceptedRun (network_of netlist) input start))
runs-decided netlist input start (run ∷ runs) long all =
    after-run (network_of netlist) input start run runs
    (run-decided netlist input start run long (All-left P (steps_of run) (all_steps runs) all))
    (runs-decided netlist input start runs long (All-right P (steps_of run) (all_steps runs) all))
  where
    P : List ℕ → Type 0
    P flips = All (λ var. var < length (network_of netlist)) flips

-- a run text of a network is accepted, or has a first refusal
pub text-decided : (netlist : Netlist) (value : RunTextOf) → IsCircuit netlist → IsRunTextFor netlist value → AreAccepted netlist value ⊎ ((number : ℕ) × (why : RunRefusal) × IsRefusalOfText netlist value number why)
text-decided netlist value circuit usable =
    runs-decided netlist value.input (start_of netlist value) value.runs (length-expansion_of netlist value.nodes circuit usable.nodes) usable.variables
