-- What a replayer stands for: after a mark, after a step, and what that tells of the cycle since the mark.
use Rattle.std.proofs.Common.{◌≡◌, ◌≢◌, ◌↔◌, ℕ, ◌<◌, ◌≤◌, Bool, true, false, not, cond, ◌&&◌, List, [], ◌∷◌, ◌++◌, length, set, replicate, All, None, IsTrue, refl, sym, ap, ◌∙◌, subst, arith, inl, inr}
use Rattle.std.specs.Bool.{beq}
use Rattle.std.proofs.lemmas.Bool.{cases_lt, cases_eq, cases_Bool, false≢true, and_parts, and_from, not-true, not-false, not_from_false, or_parts, false_from_ne_true, true_from_ne_false}
use Rattle.std.proofs.lemmas.List.{ext_get_or, length-set, length-replicate, get_or-set_same, get_or-set_other, get_or_past, get_or-replicate}
use Rattle.std.proofs.lemmas.List.FromFn.{get_or-map-range_with_len, fill_by_all}
use Rattle.hz_net.specs.Network.{Driver, network_of, bit_at, excitation, IsUnstable}
use Rattle.hz_core.specs.Netlist.{Netlist}
use Rattle.hz_lists.specs.Listed.{is_listed}
use Rattle.hz_gmw.specs.Runs.{IsStep, state_after, end_of}
use Rattle.hz_gmw.specs.Cycles.{WaitsAt, IsNontransient}
use Rattle.hz_gmw.specs.Instability.{is_unstable, unstable_variables, unstable_count}
use Rattle.hz_lists.specs.Least.{IsLeast, IsLeastOf}
use Rattle.hz_gmw.specs.LeastListed.{least_from}
use Rattle.hz_gmw.specs.Replayer.{Replayer, StandsFor, replayer_at, watched_after, replayer_after}
use Rattle.hz_gmw.specs.ReplayFaults.{times_listed, IsStepFault, IsCycleFault}
use Rattle.hz_gmw.specs.declared.replay_fault.StepFault.{StepFault}
use Rattle.hz_gmw.specs.declared.replay_fault.StepFault.TheVariants.{Empty, Repeated, Stable}
use Rattle.hz_gmw.specs.declared.replay_fault.CycleFault.{CycleFault}
use Rattle.hz_gmw.specs.declared.replay_fault.CycleFault.TheVariants.{Differs, NotStable, Transient}
use Rattle.hz_gmw.specs.VariableSets.{AreMembers}
use Rattle.hz_gmw.specs.CurrentState.{with_marks, with_bits_of}
use Rattle.hz_gmw.proofs.Flips.{length-state_after, at-state_after}
use Rattle.hz_gmw.proofs.Paths.{end_of-append, IsRun-append}
use Rattle.hz_gmw.proofs.CoverB.{length-end_of}
use Rattle.hz_lists.proofs.LeastLemmas.{IsLeastOf-same}
use Rattle.hz_lists.proofs.ListedLemmas.{listed-other, All-listed}
use Rattle.hz_gmw.proofs.LeastLemmas.{least-listed, IsRepeatFree-times_listed, times_listed-IsRepeatFree}
use Rattle.hz_gmw.proofs.Bits.{beq-same, beq-refl}
use Rattle.hz_gmw.proofs.Counting.{weight}
use Rattle.hz_gmw.proofs.Counts.{one-bound}
use Rattle.hz_gmw.proofs.Marks.{at-with_marks}

-- the test says whether a variable is unstable
pub unstable-true : (net : List Driver) (input state : List Bool) (i : ℕ) → is_unstable net input state i ≡ true → IsUnstable net input state i
unstable-true net input state i is same =
    false≢true (sym (not-true (beq (bit_at state i) (excitation net input state i)) is) ∙ (ap (beq (bit_at state i)) (sym same) ∙ beq-refl (bit_at state i)))

pub true-unstable : (net : List Driver) (input state : List Bool) (i : ℕ) → IsUnstable net input state i → is_unstable net input state i ≡ true
true-unstable net input state i unstable =
    not_from_false (beq (bit_at state i) (excitation net input state i)) (false_from_ne_true (beq (bit_at state i) (excitation net input state i)) (λ e. unstable (beq-same (bit_at state i) (excitation net input state i) e)))

-- a bit that is not different is the same
pub same-bit : (a b : Bool) → (a ≢ b → ⊥) → a ≡ b
same-bit a b not-different = beq-same a b (true_from_ne_false (beq a b) (λ e. not-different (λ same. false≢true (sym e ∙ (ap (beq a) (sym same) ∙ beq-refl a)))))

pub at-unstable_variables : (net : List Driver) (input state : List Bool) (i : ℕ) → i < length net → bit_at (unstable_variables net input state) i ≡ is_unstable net input state i
at-unstable_variables net input state i inside = get_or-map-range_with_len (is_unstable net input state) 0 (length net) i i false inside (omega arith)

-- right marks are the marks of the unstable variables
pub unstable-list : (net : List Driver) (input state marks : List Bool) → length marks ≡ length net → ((i : ℕ) → i < length net → bit_at marks i ≡ is_unstable net input state i) → marks ≡ unstable_variables net input state
unstable-list net input state marks long right = fill_by_all (is_unstable net input state) marks (length net) false long right

-- a replayer whose state is marked stands for the run of this state alone
pub stands-at : (circuit : Netlist) (input begun state : List Bool) → StandsFor (replayer_at circuit input begun state) []
stands-at circuit input begun state =
    let net = network_of circuit in
    record {
      run = tt;
      ends = refl;
      stepped = (λ e. absurd (false≢true e), λ other. absurd (other refl));
      watched = λ i inside. (
        λ is. (bit_at state i, ((refl, unstable-true net input state i (sym (at-unstable_variables net input state i inside) ∙ is)), tt)),
        λ waits. at-unstable_variables net input state i inside ∙ true-unstable net input state i waits.1.0.1,
      );
    }

-- what waits along a run waits in its last state
waits-end : (net : List Driver) (input state : List Bool) (steps : List (List ℕ)) (i : ℕ) (bit : Bool) → WaitsAt net input state steps i bit → (bit_at (end_of state steps) i ≡ bit) × IsUnstable net input (end_of state steps) i
waits-end net input state [] i bit waits = waits.0
waits-end net input state (flips ∷ steps) i bit waits = waits-end net input (state_after flips state) steps i bit waits.1

-- and along its prefix
pub waits-front : (net : List Driver) (input state : List Bool) (steps more : List (List ℕ)) (i : ℕ) (bit : Bool) → WaitsAt net input state (steps ++ more) i bit → WaitsAt net input state steps i bit
waits-front net input state [] [] i bit waits = waits
waits-front net input state [] (flips ∷ more) i bit waits = (waits.0, tt)
waits-front net input state (flips ∷ steps) more i bit waits = (waits.0, waits-front net input (state_after flips state) steps more i bit waits.1)

-- and along a step more where it waits after it
waits-push : (net : List Driver) (input state : List Bool) (steps : List (List ℕ)) (flips : List ℕ) (i : ℕ) (bit : Bool) → WaitsAt net input state steps i bit → (bit_at (state_after flips (end_of state steps)) i ≡ bit) × IsUnstable net input (state_after flips (end_of state steps)) i → WaitsAt net input state (steps ++ flips ∷ []) i bit
waits-push net input state [] flips i bit waits last = (waits.0, (last, tt))
waits-push net input state (first ∷ steps) flips i bit waits last = (waits.0, waits-push net input (state_after first state) steps flips i bit waits.1 last)

some-steps : (steps : List (List ℕ)) (flips : List ℕ) → (steps ++ flips ∷ []) ≢ []
some-steps [] flips e = cc
some-steps (first ∷ steps) flips e = cc

not-same : (bit : Bool) → not bit ≡ bit → ⊥
not-same true e = false≢true e
not-same false e = false≢true (sym e)

-- a replayer stands for a run with a step more after this step
pub stands-step : (now : Replayer) (flips : List ℕ) (steps : List (List ℕ)) → length now.state ≡ length (network_of now.circuit) → StandsFor now steps → IsStep (network_of now.circuit) now.input now.state flips → StandsFor (replayer_after now flips) (steps ++ flips ∷ [])
stands-step now flips steps long stands step =
    let net = network_of now.circuit in
    let input = now.input in
    let marked = now.marked in
    let end = end_of marked steps in
    let next = state_after flips now.state in
    let here : state_after flips end ≡ next = ap (state_after flips) stands.ends in
    let kept : (i : ℕ) → i < length net → bit_at next i ≡ cond (is_listed flips i) (not (bit_at now.state i)) (bit_at now.state i) =
    λ i inside. at-state_after flips now.state i (omega (arith, inside, long)) in
    let watched : (i : ℕ) → i < length net → bit_at (watched_after now flips) i ≡ (bit_at now.watched i && not (is_listed flips i)) && is_unstable net input next i =
    λ i inside. get_or-map-range_with_len (λ (j : ℕ). (bit_at now.watched j && not (is_listed flips j)) && is_unstable net input next j) 0 (length net) i i false inside (omega arith) in
    record {
      run = IsRun-append net input marked steps (flips ∷ []) stands.run (subst (λ (s : List Bool). IsStep net input s flips) (sym stands.ends) step, tt);
      ends = end_of-append marked steps (flips ∷ []) ∙ here;
      stepped = (λ e. some-steps steps flips, λ other. refl);
      watched = λ i inside. (
        λ is.
            let both = and_parts (bit_at now.watched i && not (is_listed flips i)) (is_unstable net input next i) (sym (watched i inside) ∙ is) in
            let parts = and_parts (bit_at now.watched i) (not (is_listed flips i)) both.0 in
            let still : is_listed flips i ≡ false = not-true (is_listed flips i) parts.1 in
            let waits = (stands.watched i inside).0 parts.0 in
            let bit = waits.0 in
            let last = waits-end net input marked steps i bit waits.1 in (
              bit,
              waits-push net input marked steps flips i bit waits.1 (
                ap (λ (s : List Bool). bit_at s i) here ∙ (kept i inside ∙ (ap (λ (b : Bool). cond b (not (bit_at now.state i)) (bit_at now.state i)) still ∙ (ap (λ (s : List Bool). bit_at s i) (sym stands.ends) ∙ last.0))),
                subst (λ (s : List Bool). IsUnstable net input s i) (sym here) (unstable-true net input next i both.1),
              ),
            ),
        λ waits.
            let bit = waits.0 in
            let front : WaitsAt net input marked steps i bit = waits-front net input marked steps (flips ∷ []) i bit waits.1 in
            let before = waits-end net input marked steps i bit front in
            let after = waits-end net input marked (steps ++ flips ∷ []) i bit waits.1 in
            let ends : end_of marked (steps ++ flips ∷ []) ≡ next = end_of-append marked steps (flips ∷ []) ∙ here in
            let is : bit_at next i ≡ bit = ap (λ (s : List Bool). bit_at s i) (sym ends) ∙ after.0 in
            let was : bit_at now.state i ≡ bit = ap (λ (s : List Bool). bit_at s i) (sym stands.ends) ∙ before.0 in
            let still : is_listed flips i ≡ false = false_from_ne_true (is_listed flips i) (λ there.
            let turned : bit_at next i ≡ not (bit_at now.state i) = kept i inside ∙ ap (λ (b : Bool). cond b (not (bit_at now.state i)) (bit_at now.state i)) there in
            not-same bit (ap not (sym was) ∙ (sym turned ∙ is))) in
            let unstable : is_unstable net input next i ≡ true = true-unstable net input next i (subst (λ (s : List Bool). IsUnstable net input s i) ends after.1) in
            watched i inside ∙ and_from (bit_at now.watched i && not (is_listed flips i)) (is_unstable net input next i)
            (and_from (bit_at now.watched i) (not (is_listed flips i)) ((stands.watched i inside).1 (bit, front)) (not_from_false (is_listed flips i) still)) unstable,
      );
    }

-- a list with a fault is no step
pub step-or-fault : (net : List Driver) (input state : List Bool) (flips : List ℕ) (fault : StepFault) → IsStepFault net input state flips fault → IsStep net input state flips → ⊥
step-or-fault net input state flips Empty is step = step.some is
step-or-fault net input state flips (Repeated var) is step = times_listed-IsRepeatFree flips step.once var is.here
step-or-fault net input state flips (Stable var) is step = step.unstable var is.1.here.0 is.1.here.1

-- a run with a fault is no nontransient cycle
pub cycle-or-fault : (net : List Driver) (input state : List Bool) (steps : List (List ℕ)) (fault : CycleFault) → IsCycleFault net input state steps fault → IsNontransient net input state steps → ⊥
cycle-or-fault net input state steps (Differs var) is cycle = is.here (ap (λ (s : List Bool). bit_at s var) cycle.cycle.closed)
cycle-or-fault net input state steps (NotStable var) is cycle = is.1.here.1 (cycle.cycle.alone is.0 var is.1.here.0)
cycle-or-fault net input state steps (Transient var) is cycle = cycle.lasts (var, is.2.here.0, is.2.here.1)

-- a variable that moved
pub differs-fault : (now : Replayer) (steps : List (List ℕ)) (var : ℕ) → StandsFor now steps → IsLeast (λ i. bit_at now.state i ≢ bit_at now.marked i) var → IsCycleFault (network_of now.circuit) now.input now.marked steps (Differs var)
differs-fault now steps var stands moved = subst (λ (s : List Bool). IsLeast (λ i. bit_at s i ≢ bit_at now.marked i) var) (sym stands.ends) moved

-- where none moved, the run is closed
pub closed-by : (now : Replayer) (steps : List (List ℕ)) → StandsFor now steps → ((i : ℕ) → bit_at now.state i ≢ bit_at now.marked i → ⊥) → now.state ≡ now.marked
closed-by now steps stands still =
    let long : length now.state ≡ length now.marked = ap (length {A = Bool}) (sym stands.ends) ∙ length-end_of now.marked steps in
    ext_get_or false now.state now.marked long (λ i inside. same-bit (bit_at now.state i) (bit_at now.marked i) (still i))

no-steps : (stepped : Bool) (steps : List (List ℕ)) → IsTrue stepped ↔ (steps ≢ []) → stepped ≡ false → steps ≡ []
no-steps stepped [] iff e = refl
no-steps stepped (flips ∷ steps) iff e = absurd (false≢true (sym e ∙ iff.1 (λ h. cc)))

-- no step was made, and a variable is unstable
pub not-stable-fault : (now : Replayer) (steps : List (List ℕ)) (var : ℕ) → StandsFor now steps → now.state ≡ now.marked → now.stepped ≡ false → IsLeast (λ i. (i < length (network_of now.circuit)) × IsUnstable (network_of now.circuit) now.input now.state i) var → IsCycleFault (network_of now.circuit) now.input now.marked steps (NotStable var)
not-stable-fault now steps var stands closed resting unstable = (
  no-steps now.stepped steps stands.stepped resting,
  subst (λ (s : List Bool). IsLeast (λ i. (i < length (network_of now.circuit)) × IsUnstable (network_of now.circuit) now.input s i) var) closed unstable,
)

-- no step was made, and no variable is unstable
pub stable-cycle : (now : Replayer) (steps : List (List ℕ)) → StandsFor now steps → now.state ≡ now.marked → now.stepped ≡ false → ((i : ℕ) → (i < length (network_of now.circuit)) × IsUnstable (network_of now.circuit) now.input now.state i → ⊥) → IsNontransient (network_of now.circuit) now.input now.marked steps
stable-cycle now steps stands closed resting stable =
    let net = network_of now.circuit in
    let none : steps ≡ [] = no-steps now.stepped steps stands.stepped resting in
    let here : (i : ℕ) → i < length net → IsUnstable net now.input now.marked i → ⊥ =
    λ i inside unstable. stable i (inside, subst (λ (s : List Bool). IsUnstable net now.input s i) (sym closed) unstable) in
    record {
      cycle = record {
        run = stands.run;
        closed = stands.ends ∙ closed;
        alone = λ e i inside. same-bit (bit_at now.marked i) (excitation net now.input now.marked i) (here i inside);
      };
      lasts = λ waits.
          let alone : WaitsAt net now.input now.marked [] waits.0 waits.2.0 = subst (λ (s : List (List ℕ)). WaitsAt net now.input now.marked s waits.0 waits.2.0) none waits.2.1 in
          here waits.0 waits.1 alone.0.1;
    }

-- a step was made, and a variable waits all along
pub transient-fault : (now : Replayer) (steps : List (List ℕ)) (var : ℕ) → StandsFor now steps → now.state ≡ now.marked → now.stepped ≡ true → IsLeast (λ i. (i < length (network_of now.circuit)) × IsTrue (bit_at now.watched i)) var → IsCycleFault (network_of now.circuit) now.input now.marked steps (Transient var)
transient-fault now steps var stands closed moving watched = (
  stands.ends ∙ closed,
  stands.stepped.0 moving,
  record {
    here = (watched.here.0, (stands.watched var watched.here.0).0 watched.here.1);
    least = λ j waits. watched.least j (waits.0, (stands.watched j waits.0).1 waits.1);
  },
)

-- a step was made, and no variable waits all along
pub moving-cycle : (now : Replayer) (steps : List (List ℕ)) → StandsFor now steps → now.state ≡ now.marked → now.stepped ≡ true → ((i : ℕ) → (i < length (network_of now.circuit)) × IsTrue (bit_at now.watched i) → ⊥) → IsNontransient (network_of now.circuit) now.input now.marked steps
moving-cycle now steps stands closed moving unwatched = record {
  cycle = record {
    run = stands.run;
    closed = stands.ends ∙ closed;
    alone = λ e. absurd (stands.stepped.0 moving e);
  };
  lasts = λ waits. unwatched waits.0 (waits.1, (stands.watched waits.0 waits.1).1 waits.2);
}

pub length-with_bits_of : (state marked : List Bool) (list : List ℕ) → length (with_bits_of state marked list) ≡ length marked
length-with_bits_of state marked [] = refl
length-with_bits_of state marked (x ∷ list) = length-with_bits_of state (set marked x (bit_at state x)) list ∙ length-set marked x (bit_at state x)

-- what is the same stays the same
taken-same : (state marked : List Bool) (list : List ℕ) (i : ℕ) → i < length marked → bit_at marked i ≡ bit_at state i → bit_at (with_bits_of state marked list) i ≡ bit_at state i
taken-same state marked [] i inside same = same
taken-same state marked (x ∷ list) i inside same =
    taken-same state (set marked x (bit_at state x)) list i (omega (arith, inside, length-set marked x (bit_at state x))) (elim (cases_eq i x) [
      | inl here ↦ (
          let within : x < length marked = omega (arith, inside, here) in
          ap (bit_at (set marked x (bit_at state x))) here ∙ (get_or-set_same marked x (bit_at state x) false within ∙ ap (bit_at state) (sym here))
          )
      | inr other ↦ get_or-set_other marked x i (bit_at state x) false other ∙ same
    ])

-- and what is listed becomes so
taken-listed : (state marked : List Bool) (list : List ℕ) (i : ℕ) → i < length marked → is_listed list i ≡ true → bit_at (with_bits_of state marked list) i ≡ bit_at state i
taken-listed state marked [] i inside there = absurd (false≢true there)
taken-listed state marked (x ∷ list) i inside there = elim (cases_eq i x) [
  | inl here ↦ (
      let within : x < length marked = omega (arith, inside, here) in
      taken-same state (set marked x (bit_at state x)) list i (omega (arith, inside, length-set marked x (bit_at state x)))
      (ap (bit_at (set marked x (bit_at state x))) here ∙ (get_or-set_same marked x (bit_at state x) false within ∙ ap (bit_at state) (sym here)))
      )
  | inr other ↦ taken-listed state (set marked x (bit_at state x)) list i (omega (arith, inside, length-set marked x (bit_at state x))) (sym (listed-other i x list other) ∙ there)
]

-- what did not move before a step and is not changed by it has not moved after it
pub back-step : (flips : List ℕ) (begun moved moved' state state' : List Bool) → length moved ≡ length state → state' ≡ state_after flips state → moved' ≡ with_marks moved flips → ((i : ℕ) → bit_at moved i ≡ false → bit_at begun i ≡ bit_at state i) → (i : ℕ) → bit_at moved' i ≡ false → bit_at begun i ≡ bit_at state' i
back-step flips begun moved moved' state state' long state_is moved_is back i still =
    subst (λ (bits : List Bool). bit_at begun i ≡ bit_at bits i) (sym state_is) (elim (cases_lt i (length state)) [
      | inl inside ↦ (
          let parts = or_parts (bit_at moved i) (is_listed flips i) (sym (at-with_marks moved flips i (omega (arith, inside, long))) ∙ (ap (λ (bits : List Bool). bit_at bits i) (sym moved_is) ∙ still)) in
          back i parts.0 ∙ sym (at-state_after flips state i inside ∙ ap (λ (b : Bool). cond b (not (bit_at state i)) (bit_at state i)) parts.1)
          )
      | inr past ↦
          back i (get_or_past moved i false (omega (arith, past, long))) ∙
          (get_or_past state i false past ∙ sym (get_or_past (state_after flips state) i false (omega (arith, past, length-state_after flips state))))
    ])

-- all that was touched is taken over: the marked state is the current one
pub taken-all : (state marked touched : List Bool) (list : List ℕ) → length marked ≡ length state → AreMembers touched list → ((i : ℕ) → bit_at touched i ≡ false → bit_at marked i ≡ bit_at state i) → with_bits_of state marked list ≡ state
taken-all state marked touched list long members same =
    ext_get_or false (with_bits_of state marked list) state (length-with_bits_of state marked list ∙ long) (λ i inside.
    let within : i < length marked = omega (arith, inside, length-with_bits_of state marked list) in
    elim (cases_Bool (bit_at touched i)) [
      | inl there ↦ taken-listed state marked list i within (members.every i there)
      | inr missing ↦ taken-same state marked list i within (same i missing)
    ])

-- the least touched variable that differs is the least that differs
pub least-moved : (state marked touched : List Bool) (list : List ℕ) → AreMembers touched list → ((i : ℕ) → bit_at touched i ≡ false → bit_at marked i ≡ bit_at state i) → IsLeastOf (λ i. bit_at state i ≢ bit_at marked i) (least_from None (λ var. not (beq (bit_at state var) (bit_at marked var))) list)
least-moved state marked touched list members same =
    let test : ℕ → Bool = λ var. not (beq (bit_at state var) (bit_at marked var)) in
    IsLeastOf-same (λ i. IsTrue (is_listed list i) × IsTrue (test i)) (λ i. bit_at state i ≢ bit_at marked i) (least_from None test list)
    (λ i h e. false≢true (sym (not-true (beq (bit_at state i) (bit_at marked i)) h.1) ∙ (ap (beq (bit_at state i)) (sym e) ∙ beq-refl (bit_at state i))))
    (λ i differ. (
      members.every i (true_from_ne_false (bit_at touched i) (λ missing. differ (sym (same i missing)))),
      not_from_false (beq (bit_at state i) (bit_at marked i)) (false_from_ne_true (beq (bit_at state i) (bit_at marked i)) (λ e. differ (beq-same (bit_at state i) (bit_at marked i) e))),
    ))
    (least-listed test list)

-- a list without a fault is a step
pub step-by : (net : List Driver) (input state marks : List Bool) (flips : List ℕ) → All (λ var. var < length net) flips → ((i : ℕ) → i < length net → bit_at marks i ≡ is_unstable net input state i) → flips ≢ [] → ((i : ℕ) → 2 ≤ times_listed flips i → ⊥) → ((i : ℕ) → IsTrue (is_listed flips i) × IsTrue (not (bit_at marks i)) → ⊥) → IsStep net input state flips
step-by net input state marks flips all right some once marked = record {
  some = some;
  once = IsRepeatFree-times_listed flips once;
  inside = λ i there. All-listed (λ (var : ℕ). var < length net) flips i all there;
  unstable = λ i there.
      let inside : i < length net = All-listed (λ (var : ℕ). var < length net) flips i all there in
      unstable-true net input state i (sym (right i inside) ∙ true_from_ne_false (bit_at marks i) (λ stable. marked i (there, not_from_false (bit_at marks i) stable)));
}

-- the least listed variable that is not marked is the least that is stable
pub stable-fault : (net : List Driver) (input state marks : List Bool) (flips : List ℕ) (var : ℕ) → All (λ var. var < length net) flips → ((i : ℕ) → i < length net → bit_at marks i ≡ is_unstable net input state i) → ((i : ℕ) → 2 ≤ times_listed flips i → ⊥) → IsLeast (λ i. IsTrue (is_listed flips i) × IsTrue (not (bit_at marks i))) var → IsStepFault net input state flips (Stable var)
stable-fault net input state marks flips var all right once found =
    let stable : (i : ℕ) → IsTrue (is_listed flips i) → bit_at marks i ≡ false → bit_at state i ≡ excitation net input state i =
    λ i there missing.
    let inside : i < length net = All-listed (λ (var : ℕ). var < length net) flips i all there in
    beq-same (bit_at state i) (excitation net input state i) (not-false (beq (bit_at state i) (excitation net input state i)) (sym (right i inside) ∙ missing))
    in (
      IsRepeatFree-times_listed flips once,
      record {
        here = (found.here.0, stable var found.here.0 (not-true (bit_at marks var) found.here.1));
        least = λ j h.
            let inside : j < length net = All-listed (λ (var : ℕ). var < length net) flips j all h.0 in
            found.least j (h.0, not_from_false (bit_at marks j) (right j inside ∙ ap not (ap (beq (bit_at state j)) (sym h.1) ∙ beq-refl (bit_at state j))));
      },
    )

-- a replayer with these parts is at a marked state
pub replayed-is : (circuit : Netlist) (input input' begun begun' state state' marked watched : List Bool) → input' ≡ input → begun' ≡ begun → state' ≡ state → marked ≡ state → watched ≡ unstable_variables (network_of circuit) input state → (let now : Replayer = record { circuit = circuit; input = input'; begun = begun'; state = state'; marked = marked; stepped = false; watched = watched } in now) ≡ replayer_at circuit input begun state
replayed-is circuit input input' begun begun' state state' marked watched input_is begun_is state_is marked_is watched_is =
    let parts : List Bool → List Bool → List Bool → List Bool → List Bool → Replayer =
    λ i b s m w. record { circuit = circuit; input = i; begun = b; state = s; marked = m; stepped = false; watched = w } in
    ap (λ (i : List Bool). parts i begun' state' marked watched) input_is ∙
    (ap (λ (b : List Bool). parts input b state' marked watched) begun_is ∙
    (ap (λ (s : List Bool). parts input begun s marked watched) state_is ∙
    (ap (λ (m : List Bool). parts input begun state m watched) marked_is ∙
    ap (λ (w : List Bool). parts input begun state state w) watched_is)))

-- a replayer with these parts is a step further
pub stepped-is : (now : Replayer) (flips : List ℕ) (input state watched : List Bool) → input ≡ now.input → state ≡ state_after flips now.state → watched ≡ watched_after now flips → (let next : Replayer = record { circuit = now.circuit; input = input; begun = now.begun; state = state; marked = now.marked; stepped = true; watched = watched } in next) ≡ replayer_after now flips
stepped-is now flips input state watched input_is state_is watched_is =
    let parts : List Bool → List Bool → List Bool → Replayer =
    λ i s w. record { circuit = now.circuit; input = i; begun = now.begun; state = s; marked = now.marked; stepped = true; watched = w } in
    ap (λ (i : List Bool). parts i state watched) input_is ∙
    (ap (λ (s : List Bool). parts now.input s watched) state_is ∙
    ap (λ (w : List Bool). parts now.input (state_after flips now.state) w) watched_is)

-- a fresh set marks nothing
pub none-marked : (marks : List Bool) (count : ℕ) → marks ≡ replicate count false → (i : ℕ) → i < length marks → bit_at marks i ≡ false
none-marked marks count is i inside =
    ap (λ (m : List Bool). bit_at m i) is ∙ get_or-replicate count i false false (omega (arith, inside, ap (length {A = Bool}) is, length-replicate count false))

-- the least listed variable that is stable, in terms of the marks of all
pub stable-listed : (net : List Driver) (input state : List Bool) (flips : List ℕ) → All (λ var. var < length net) flips → IsLeastOf (λ i. IsTrue (is_listed flips i) × IsTrue (not (bit_at (unstable_variables net input state) i))) (least_from None (λ var. not (is_unstable net input state var)) flips)
stable-listed net input state flips all =
    let at : (i : ℕ) → IsTrue (is_listed flips i) → bit_at (unstable_variables net input state) i ≡ is_unstable net input state i =
    λ i there. at-unstable_variables net input state i (All-listed (λ (var : ℕ). var < length net) flips i all there) in
    IsLeastOf-same (λ i. IsTrue (is_listed flips i) × IsTrue (not (is_unstable net input state i))) (λ i. IsTrue (is_listed flips i) × IsTrue (not (bit_at (unstable_variables net input state) i))) (least_from None (λ var. not (is_unstable net input state var)) flips)
    (λ i h. (h.0, ap not (at i h.0) ∙ h.1))
    (λ i h. (h.0, sym (ap not (at i h.0)) ∙ h.1))
    (least-listed (λ var. not (is_unstable net input state var)) flips)

-- what changed or moved is listed: all else has at the mark the value that it had at the begin
pub restart-same : (changed changed' moved marked begun state : List Bool) (list : List ℕ) → changed' ≡ with_marks changed list → AreMembers moved list → length marked ≡ length changed → length begun ≡ length changed → ((i : ℕ) → bit_at changed i ≡ false → bit_at marked i ≡ bit_at state i) → ((i : ℕ) → bit_at moved i ≡ false → bit_at begun i ≡ bit_at state i) → (i : ℕ) → bit_at changed' i ≡ false → bit_at marked i ≡ bit_at begun i
restart-same changed changed' moved marked begun state list changed_is members marked_long begun_long same back i still = elim (cases_lt i (length changed)) [
  | inl inside ↦ (
      let parts = or_parts (bit_at changed i) (is_listed list i) (sym (at-with_marks changed list i inside) ∙ (ap (λ (bits : List Bool). bit_at bits i) (sym changed_is) ∙ still)) in
      let rests : bit_at moved i ≡ false = false_from_ne_true (bit_at moved i) (λ there. false≢true (sym parts.1 ∙ members.every i there)) in
      same i parts.0 ∙ sym (back i rests)
      )
  | inr past ↦ get_or_past marked i false (omega (arith, past, marked_long)) ∙ sym (get_or_past begun i false (omega (arith, past, begun_long)))
]

-- where the count is 0 no variable is unstable
pub none-unstable : (netlist : Netlist) (input state : List Bool) → unstable_count (network_of netlist) input state ≡ 0 → (i : ℕ) → (i < length (network_of netlist)) × IsUnstable (network_of netlist) input state i → ⊥
none-unstable netlist input state none i h =
    let inside : i < length (network_of netlist) = h.0 in
    let one = one-bound netlist input state i inside in
    let here : weight (is_unstable (network_of netlist) input state i) ≡ 1 = ap weight (true-unstable (network_of netlist) input state i h.1) in
    omega (arith, one, here, none)
