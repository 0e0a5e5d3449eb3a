-- Algorithm B covers: every outcome state refines each state of its sequence.
use Rattle.std.proofs.Common.{◌≡◌, ◌≢◌, ℕ, zero, suc, ◌<◌, Bool, true, false, not, cond, List, [], ◌∷◌, ◌++◌, length, refl, sym, ap, ◌∙◌, subst, IsTrue, inl, inr}
use Rattle.std.specs.List.{AllByRecursion}
use Rattle.hz_core.specs.declared.tri.Tri.{Tri}
use Rattle.hz_core.specs.declared.tri.Tri.TheVariants.{Zero, One, Unknown}
use Rattle.hz_core.specs.Ternary.{tri_of, admits, Refines}
use Rattle.hz_net.specs.Network.{Driver, bit_at, driver_at, driver_value3, excitation, IsUnstable}
use Rattle.hz_net.specs.Passes.{excitations, algorithm_a, algorithm_b, AreRounds}
use Rattle.hz_core.proofs.Refinements.{known-admits, Refines-get_or}
use Rattle.hz_net.proofs.Excitations.{admits-driver_value, length-excitations, at-excitations}
use Rattle.hz_lists.specs.Listed.{is_listed}
use Rattle.hz_gmw.specs.Runs.{IsStep, state_after, IsRun, end_of, IsReachable, states_of}
use Rattle.hz_gmw.specs.Cycles.{IsNontransient, IsOutcome}
use Rattle.hz_gmw.proofs.Flips.{length-state_after, at-state_after}
use Rattle.hz_gmw.proofs.CoverA.{covers}
use Rattle.hz_gmw.proofs.Paths.{end_of-append, IsRun-front, IsRun-rest, IsReachable-onward, IsCut, cut-member, value-somewhere}

pub length-end_of : (state : List Bool) (steps : List (List ℕ)) → length (end_of state steps) ≡ length state
length-end_of state [] = refl
length-end_of state (flips ∷ steps) = length-end_of (state_after flips state) steps ∙ length-state_after flips state

pub length-IsReachable : (net : List Driver) (input start state : List Bool) → IsReachable net input start state → length state ≡ length start
length-IsReachable net input start state reach = ap (length {A = Bool}) (sym reach.2) ∙ length-end_of start reach.0

-- one step further
one-step : (net : List Driver) (input first now : List Bool) (flips : List ℕ) → IsReachable net input first now → IsStep net input now flips → IsReachable net input first (state_after flips now)
one-step net input first now flips reach step =
    IsReachable-onward net input first now (state_after flips now) reach (flips ∷ [], (step, tt), refl)

-- each state of a run from a reachable state is reachable
each-reachable : (net : List Driver) (input first now : List Bool) (steps : List (List ℕ)) → IsReachable net input first now → IsRun net input now steps → AllByRecursion (IsReachable net input first) (states_of now steps)
each-reachable net input first now [] reach run = (reach, tt)
each-reachable net input first now (flips ∷ steps) reach run =
    (reach, each-reachable net input first (state_after flips now) steps (one-step net input first now flips reach run.0) run.1)

-- what excites variable i in each state that is reachable from `first` is this bit
abbrev IsDriven : List Driver → List Bool → List Bool → ℕ → Bool → Type 0
IsDriven net input first i bit = (now : List Bool) → IsReachable net input first now → excitation net input now i ≡ bit

-- a variable that has the bit to which it is driven keeps it in a step
kept : (listed now excited bit : Bool) → (listed ≡ true → now ≢ excited) → now ≡ bit → excited ≡ bit → cond listed (not now) now ≡ bit
kept false now excited bit unstable has driven = has
kept true now excited bit unstable has driven = absurd (unstable refl (has ∙ sym driven))

-- and along a run
stays : (net : List Driver) (input first now : List Bool) (i : ℕ) (bit : Bool) (steps : List (List ℕ)) → IsDriven net input first i bit → IsReachable net input first now → IsRun net input now steps → i < length now → bit_at now i ≡ bit → bit_at (end_of now steps) i ≡ bit
stays net input first now i bit [] driven reach run inside has = has
stays net input first now i bit (flips ∷ steps) driven reach run inside has =
    stays net input first (state_after flips now) i bit steps driven (one-step net input first now flips reach run.0) run.1
    (subst (λ (n : ℕ). i < n) (sym (length-state_after flips now)) inside)
    (at-state_after flips now i inside ∙ kept (is_listed flips i) (bit_at now i) (excitation net input now i) bit (run.0.unstable i) has (driven now reach))

not-itself : (bit : Bool) → not bit ≡ bit → ⊥
not-itself false e = cc
not-itself true e = cc

-- a variable that is driven to one bit and has the other throughout waits
waits : (net : List Driver) (input first : List Bool) (i : ℕ) (bit : Bool) (states : List (List Bool)) → IsDriven net input first i bit → AllByRecursion (IsReachable net input first) states → AllByRecursion (λ now. bit_at now i ≡ not bit) states → AllByRecursion (λ now. (bit_at now i ≡ not bit) × IsUnstable net input now i) states
waits net input first i bit [] driven reach has = tt
waits net input first i bit (now ∷ states) driven reach has =
    ((has.0, λ same. not-itself bit (sym has.0 ∙ (same ∙ driven now reach.0))), waits net input first i bit states driven reach.1 has.1)

itself : (net : List Driver) (input first : List Bool) → IsReachable net input first first
itself net input first = ([], tt, refl)

-- on a nontransient cycle a variable comes to the bit to which it is always driven
comes : (net : List Driver) (input first : List Bool) (steps : List (List ℕ)) (i : ℕ) (bit : Bool) → IsNontransient net input first steps → IsDriven net input first i bit → i < length net → length first ≡ length net → bit_at first i ≡ bit
comes net input first steps i bit cycle driven inside long =
    elim (value-somewhere first steps i bit) [ inl found ↦ back found.0 found.1 found.2 | inr other ↦ absurd (cycle.lasts (i, inside, (not bit, waits net input first i bit (states_of first steps) driven (each-reachable net input first first steps (itself net input first) cycle.cycle.run) other))) ]
  where
    back : (member : List Bool) → IsCut first steps member → bit_at member i ≡ bit → bit_at first i ≡ bit
    back member cut has =
        let run : IsRun net input first (cut.earlier ++ cut.later) = subst (λ (ss : List (List ℕ)). IsRun net input first ss) (sym cut.whole) cycle.cycle.run in
        let reach : IsReachable net input first member = (cut.earlier, IsRun-front net input first cut.earlier cut.later run, cut.here) in
        let rest : IsRun net input member cut.later = subst (λ (s : List Bool). IsRun net input s cut.later) cut.here (IsRun-rest net input first cut.earlier cut.later run) in
        let ends : end_of member cut.later ≡ first =
        ap (λ (s : List Bool). end_of s cut.later) (sym cut.here) ∙ (sym (end_of-append first cut.earlier cut.later) ∙ (ap (end_of first) cut.whole ∙ cycle.cycle.closed)) in
        let member_long : length member ≡ length net = length-IsReachable net input first member reach ∙ long in
        ap (λ (s : List Bool). bit_at s i) (sym ends)
        ∙ stays net input first member i bit cut.later driven reach rest (subst (λ (n : ℕ). i < n) (sym member_long) inside) has

-- a value admits a bit that equals each bit that the value is
admits-by : (value : Tri) (here : Bool) → ((bit : Bool) → value ≡ tri_of bit → here ≡ bit) → IsTrue (admits value here)
admits-by Zero here known = rw (known false refl) refl
admits-by One here known = rw (known true refl) refl
admits-by Unknown false known = refl
admits-by Unknown true known = refl

-- where all states that are reachable from a nontransient cycle refine a ternary state, they refine its excitations
one-round : (net : List Driver) (input first : List Bool) (steps : List (List ℕ)) (values : List Tri) → IsNontransient net input first steps → length first ≡ length net → ((now : List Bool) → IsReachable net input first now → Refines now values) → (now : List Bool) → IsReachable net input first now → Refines now (excitations net input values)
one-round net input first steps values cycle long refined now reach =
    let now_long : length now ≡ length net = length-IsReachable net input first now reach ∙ long in
    Refines-get_or now (excitations net input values) (now_long ∙ sym (length-excitations net input values)) (λ i inside.
    let here : i < length net = subst (λ (n : ℕ). i < n) now_long inside in
    subst (λ (v : Tri). IsTrue (admits v (bit_at now i))) (sym (at-excitations net input values i here))
    (admits-by (driver_value3 input values (driver_at net i)) (bit_at now i) (λ bit known.
    let driven : IsDriven net input first i bit = λ other there. known-admits bit _ (subst (λ (v : Tri). IsTrue (admits v (excitation net input other i))) known (admits-driver_value input other values (refined other there) (driver_at net i))) in
    let began : bit_at first i ≡ bit = comes net input first steps i bit cycle driven here long in
    ap (λ (s : List Bool). bit_at s i) (sym reach.2)
    ∙ stays net input first first i bit reach.0 driven (itself net input first) reach.1 (subst (λ (n : ℕ). i < n) (sym long) here) began)))

-- all states that are reachable from a reachable nontransient cycle refine each state of Algorithm B
each-round : (net : List Driver) (input first : List Bool) (steps : List (List ℕ)) (values : List Tri) → IsNontransient net input first steps → length first ≡ length net → ((now : List Bool) → IsReachable net input first now → Refines now values) → (round : ℕ) (now : List Bool) → IsReachable net input first now → Refines now (algorithm_b net input values round)
each-round net input first steps values cycle long refined zero now reach = refined now reach
each-round net input first steps values cycle long refined (suc round) now reach =
    one-round net input first steps (algorithm_b net input values round) cycle long (each-round net input first steps values cycle long refined round) now reach

-- where all reachable states refine a ternary state, all outcomes refine each state of Algorithm B from there
pub covers_outcomes_of : (net : List Driver) (input start state : List Bool) (values : List Tri) (round : ℕ) → length start ≡ length net → ((now : List Bool) → IsReachable net input start now → Refines now values) → IsOutcome net input start state → Refines state (algorithm_b net input values round)
covers_outcomes_of net input start state values round long refined outcome =
    let cut : IsCut outcome.first outcome.steps outcome.member = cut-member outcome.first outcome.member outcome.steps outcome.on_cycle in
    let run : IsRun net input outcome.first (cut.earlier ++ cut.later) = subst (λ (ss : List (List ℕ)). IsRun net input outcome.first ss) (sym cut.whole) outcome.cycle.cycle.run in
    let there : IsReachable net input outcome.first outcome.member = (cut.earlier, IsRun-front net input outcome.first cut.earlier cut.later run, cut.here) in
    let ends : end_of outcome.member cut.later ≡ outcome.first =
    ap (λ (s : List Bool). end_of s cut.later) (sym cut.here) ∙ (sym (end_of-append outcome.first cut.earlier cut.later) ∙ (ap (end_of outcome.first) cut.whole ∙ outcome.cycle.cycle.closed)) in
    let back : IsReachable net input outcome.member outcome.first =
    (cut.later, subst (λ (s : List Bool). IsRun net input s cut.later) cut.here (IsRun-rest net input outcome.first cut.earlier cut.later run), ends) in
    let begun : IsReachable net input start outcome.first = IsReachable-onward net input start outcome.member outcome.first outcome.reached back in
    each-round net input outcome.first outcome.steps values outcome.cycle
    (length-IsReachable net input start outcome.first begun ∙ long)
    (λ now reach. refined now (IsReachable-onward net input start outcome.first now begun reach))
    round state (IsReachable-onward net input outcome.first outcome.member state there outcome.onward)

-- Algorithm B covers
pub covers_outcomes : (net : List Driver) (input start state : List Bool) (rounds round : ℕ) → length start ≡ length net → AreRounds (algorithm_a net input start) rounds → IsOutcome net input start state → Refines state (algorithm_b net input (algorithm_a net input start rounds) round)
covers_outcomes net input start state rounds round long are outcome =
    covers_outcomes_of net input start state (algorithm_a net input start rounds) round long (λ now reach. covers net input start now rounds long are reach) outcome
