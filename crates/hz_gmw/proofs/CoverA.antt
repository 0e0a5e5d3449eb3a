-- Algorithm A covers: every reachable state refines its result.
use Rattle.std.proofs.Common.{◌≡◌, ◌≢◌, ℕ, ◌<◌, Bool, true, false, not, cond, List, [], ◌∷◌, length, refl, sym, ◌∙◌, subst, IsTrue}
use Rattle.hz_core.specs.declared.tri.Tri.{Tri}
use Rattle.hz_core.specs.Ternary.{admits, is_below, Refines}
use Rattle.hz_net.specs.Network.{Driver, bit_at, value_at, driver_at, driver_value3, excitation}
use Rattle.hz_net.specs.Passes.{excitations, algorithm_a, AreRounds}
use Rattle.hz_core.proofs.Refinements.{admits-is_below, length-Refines, get_or-Refines, Refines-get_or, get_or-AllBelow}
use Rattle.hz_net.proofs.Excitations.{admits-driver_value, at-excitations}
use Rattle.hz_net.proofs.Sequences.{IsClosed, AllBelow-closed, start-refines, closed-result}
use Rattle.hz_lists.specs.Listed.{is_listed}
use Rattle.hz_gmw.specs.Runs.{IsStep, state_after, IsRun, end_of, IsReachable}
use Rattle.hz_gmw.proofs.Flips.{length-state_after, at-state_after}

-- a closed state admits what excites each variable in a state that refines it
admits-excitation : (net : List Driver) (input state : List Bool) (values : List Tri) → IsClosed net input values → Refines state values → (i : ℕ) → i < length net → IsTrue (admits (value_at values i) (excitation net input state i))
admits-excitation net input state values closed refined i inside =
    admits-is_below (driver_value3 input values (driver_at net i)) (value_at values i) (excitation net input state i)
    (subst (λ (v : Tri). IsTrue (is_below v (value_at values i))) (at-excitations net input values i inside) (get_or-AllBelow (excitations net input values) values (AllBelow-closed net input values closed) i))
    (admits-driver_value input state values refined (driver_at net i))

-- the complement of an unstable variable is its excitation
not-unstable : (a b : Bool) → a ≢ b → not a ≡ b
not-unstable false false differ = absurd (differ refl)
not-unstable false true differ = refl
not-unstable true false differ = refl
not-unstable true true differ = absurd (differ refl)

-- what a step leaves at a variable is admitted
turned : (listed : Bool) (now excited : Bool) (value : Tri) → (listed ≡ true → now ≢ excited) → IsTrue (admits value now) → IsTrue (admits value excited) → IsTrue (admits value (cond listed (not now) now))
turned false now excited value unstable here there = here
turned true now excited value unstable here there =
    subst (λ (b : Bool). IsTrue (admits value b)) (sym (not-unstable now excited (unstable refl))) there

-- a step leads from a state that refines a closed one to another
step-refines : (net : List Driver) (input state : List Bool) (values : List Tri) (flips : List ℕ) → IsClosed net input values → Refines state values → IsStep net input state flips → Refines (state_after flips state) values
step-refines net input state values flips closed refined step =
    let long : length state ≡ length values = length-Refines state values refined in
    Refines-get_or (state_after flips state) values (length-state_after flips state ∙ long) (λ i inside.
    let within : i < length state = subst (λ (n : ℕ). i < n) (length-state_after flips state) inside in
    let here : i < length net = subst (λ (n : ℕ). i < n) (long ∙ closed.long) within in
    subst (λ (b : Bool). IsTrue (admits (value_at values i) b)) (sym (at-state_after flips state i within))
    (turned (is_listed flips i) (bit_at state i) (excitation net input state i) (value_at values i) (step.unstable i) (get_or-Refines state values refined i) (admits-excitation net input state values closed refined i here)))

-- and so does a run
pub run-refines : (net : List Driver) (input state : List Bool) (values : List Tri) (steps : List (List ℕ)) → IsClosed net input values → Refines state values → IsRun net input state steps → Refines (end_of state steps) values
run-refines net input state values [] closed refined run = refined
run-refines net input state values (flips ∷ steps) closed refined run =
    run-refines net input (state_after flips state) values steps closed (step-refines net input state values flips closed refined run.0) run.1

-- Algorithm A covers
pub covers : (net : List Driver) (input start state : List Bool) (rounds : ℕ) → length start ≡ length net → AreRounds (algorithm_a net input start) rounds → IsReachable net input start state → Refines state (algorithm_a net input start rounds)
covers net input start state rounds long are reach =
    subst (λ (s : List Bool). Refines s (algorithm_a net input start rounds)) reach.2
    (run-refines net input start (algorithm_a net input start rounds) reach.0 (closed-result net input start rounds long are) (start-refines net input start long rounds) reach.1)
