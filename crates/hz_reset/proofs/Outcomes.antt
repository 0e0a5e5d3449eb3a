-- From every state, under every input, a circuit may come to an outcome state: the unstable variables change by themselves, one after
-- the other and again and again, until a state comes back. Around that cycle no variable waits, since each has had its turn.
use Rattle.std.proofs.Common.{◌≡◌, Contains, IsTrue, eqb, ℕ, zero, suc, ◌+◌, ◌-◌, ◌<◌, ◌≤◌, Bool, true, false, not, List, [], ◌∷◌, ◌++◌, length, refl, sym, ap, ◌∙◌, subst, arith, cond, ◌⊎◌, inl, inr}
use Rattle.std.specs.List.{list_any, AllByRecursion, IsDistinct}
use Rattle.std.proofs.lemmas.Bool.{cases_Bool, cases_lt, false≢true, or_cases, eqb-true}
use Rattle.std.proofs.lemmas.Map.Steps.{length-le_from_distinct_below}
use Rattle.hz_net.specs.Network.{Driver, bit_at, IsUnstable}
use Rattle.hz_lists.specs.Listed.{is_listed}
use Rattle.hz_gmw.specs.Runs.{state_after, IsStep, IsRun, end_of, IsReachable, states_of}
use Rattle.hz_gmw.specs.Cycles.{WaitsAt, IsOutcome}
use Rattle.hz_gmw.specs.Instability.{is_unstable}
use Rattle.hz_lists.proofs.ListedLemmas.{listed-first, first-or-later}
use Rattle.hz_gmw.proofs.Flips.{length-state_after, at-state_after}
use Rattle.hz_gmw.proofs.CoverB.{length-end_of}
use Rattle.hz_gmw.proofs.Paths.{IsRun-append, end_of-append, IsReachable-onward}
use Rattle.hz_gmw.proofs.ReplayLemmas.{unstable-true, true-unstable, same-bit, waits-front}
use Rattle.hz_reset.specs.Values.{IsOutcomeAlong, OutcomesExist, OutcomesExistAlong}

-- States as numbers

abbrev code : List Bool → ℕ
code [] = 0
code (false ∷ bits) = code bits + code bits
code (true ∷ bits) = suc (code bits + code bits)

abbrev twos : ℕ → ℕ
twos zero = 1
twos (suc count) = twos count + twos count

code-bound : (bits : List Bool) → code bits < twos (length bits)
code-bound [] = omega arith
code-bound (false ∷ bits) = omega (arith, code-bound bits)
code-bound (true ∷ bits) = omega (arith, code-bound bits)

code-same : (bits others : List Bool) → length bits ≡ length others → code bits ≡ code others → bits ≡ others
code-same [] [] long e = refl
code-same [] (other ∷ others) long e = cc
code-same (bit ∷ bits) [] long e = cc
code-same (false ∷ bits) (false ∷ others) long e = ap (λ (rest : List Bool). false ∷ rest) (code-same bits others (omega (arith, long)) (omega (arith, e)))
code-same (true ∷ bits) (true ∷ others) long e = ap (λ (rest : List Bool). true ∷ rest) (code-same bits others (omega (arith, long)) (omega (arith, e)))
code-same (false ∷ bits) (true ∷ others) long e = absurd (omega (arith, e))
code-same (true ∷ bits) (false ∷ others) long e = absurd (omega (arith, e))

-- A sequence of numbers that stays below a bound takes a number twice

abbrev first_of : (ℕ → ℕ) → ℕ → List ℕ
first_of f zero = []
first_of f (suc count) = f count ∷ first_of f count

-- one of the first numbers is x
record IsMet (f : ℕ → ℕ) (x count : ℕ) : Type 0 where
  place : ℕ
  below : place < count
  is : f place ≡ x

-- a number stands at two places
record Returns (f : ℕ → ℕ) : Type 0 where
  later : ℕ
  met : IsMet f (f later) later

met-or-new : (f : ℕ → ℕ) (x count : ℕ) → IsMet f x count ⊎ AllByRecursion (λ y. eqb x y ≡ false) (first_of f count)
met-or-new f x zero = inr tt
met-or-new f x (suc count) =
    elim (cases_Bool (eqb x (f count))) [
      | inl same ↦ inl (record { place = count; below = omega arith; is = sym (eqb-true x (f count) same) })
      | inr new ↦ elim (met-or-new f x count) [
        | inl met ↦ inl (record { place = met.place; below = omega (arith, met.below); is = met.is })
        | inr rest ↦ inr (new, rest)
      ]
    ]

returns-or-distinct : (f : ℕ → ℕ) (count : ℕ) → Returns f ⊎ IsDistinct eqb (first_of f count)
unfolding IsDistinct
returns-or-distinct f zero = inr tt
returns-or-distinct f (suc count) =
    elim (returns-or-distinct f count) [
      | inl again ↦ inl again
      | inr distinct ↦ elim (met-or-new f (f count) count) [
        | inl met ↦ inl (record { later = count; met = met })
        | inr new ↦ inr (new, distinct)
      ]
    ]

listed-below : (f : ℕ → ℕ) (bound : ℕ) → ((k : ℕ) → f k < bound) → (q count : ℕ) → list_any (eqb q) (first_of f count) ≡ true → q < bound
listed-below f bound below q zero there = absurd (false≢true there)
listed-below f bound below q (suc count) there =
    elim (or_cases (eqb q (f count)) (list_any (eqb q) (first_of f count)) there) [
      | inl same ↦ subst (λ (n : ℕ). n < bound) (sym (eqb-true q (f count) same)) (below count)
      | inr later ↦ listed-below f bound below q count later
    ]

length-first_of : (f : ℕ → ℕ) (count : ℕ) → length (first_of f count) ≡ count
length-first_of f zero = refl
length-first_of f (suc count) = ap suc (length-first_of f count)

returns : (f : ℕ → ℕ) (bound : ℕ) → ((k : ℕ) → f k < bound) → Returns f
returns f bound below =
    elim (returns-or-distinct f (suc bound)) [
      | inl again ↦ again
      | inr distinct ↦ absurd (omega (
        arith,
        length-first_of f (suc bound),
        length-le_from_distinct_below (first_of f (suc bound)) bound distinct (λ q there. listed-below f bound below q (suc bound) there),
      ))
    ]

-- A variable that waits in a run waits in its first state
waits-first : (net : List Driver) (input state : List Bool) (steps : List (List ℕ)) (i : ℕ) (bit : Bool) → WaitsAt net input state steps i bit → (bit_at state i ≡ bit) × IsUnstable net input state i
waits-first net input state [] i bit waits = waits.0
waits-first net input state (flips ∷ steps) i bit waits = waits.0

not-same : (bit : Bool) → not bit ≡ bit → ⊥
not-same false e = cc
not-same true e = cc

no-front : (steps more : List (List ℕ)) → steps ++ more ≡ [] → steps ≡ []
no-front [] more none = refl
no-front (flips ∷ steps) more none = cc

-- a number, so many further on
abbrev further : ℕ → ℕ → ℕ
further count zero = count
further count (suc more) = suc (further count more)

further-sum : (count more : ℕ) → further count more ≡ more + count
further-sum count zero = omega arith
further-sum count (suc more) = omega (arith, further-sum count more)

-- a run in which each variable below a number has its turn: none of them waits
record IsSweep (net : List Driver) (input state : List Bool) (count : ℕ) (steps : List (List ℕ)) : Type 0 where
  run : IsRun net input state steps
  moves : (i : ℕ) (bit : Bool) → i < count → WaitsAt net input state steps i bit → ⊥

contains-first : (state : List Bool) (steps : List (List ℕ)) → Contains (states_of state steps) state
contains-first state [] = (0, omega arith, refl)
contains-first state (flips ∷ steps) = (0, omega arith, refl)

module _ (net : List Driver) (input : List Bool) where
  one-step : (state : List Bool) (i : ℕ) → i < length net → is_unstable net input state i ≡ true → IsStep net input state (i ∷ [])
  one-step state i inside unstable = record {
    some = λ e. cc;
    once = (refl, tt);
    inside = λ other there. subst (λ (n : ℕ). n < length net) (sym (only other there)) inside;
    unstable = λ other there. subst (IsUnstable net input state) (sym (only other there)) (unstable-true net input state i unstable);
  }
    where
      only : (other : ℕ) → IsTrue (is_listed (i ∷ []) other) → other ≡ i
      only other there = elim (first-or-later other i [] there) [ inl same ↦ same | inr none ↦ absurd (false≢true none) ]

  flipped : (state : List Bool) (i : ℕ) → i < length state → bit_at (state_after (i ∷ []) state) i ≡ not (bit_at state i)
  flipped state i inside =
      at-state_after (i ∷ []) state i inside ∙ ap (λ (there : Bool). cond there (not (bit_at state i)) (bit_at state i)) (listed-first i i [] refl)

  sweep : (state : List Bool) (count : ℕ) → length state ≡ length net → count ≤ length net → (steps : List (List ℕ)) × IsSweep net input state count steps
  sweep state zero long few = ([], record { run = tt; moves = λ i bit below waits. absurd (omega (arith, below)) })
  sweep state (suc i) long few =
      elim (cases_Bool (is_unstable net input state i)) [
        | inl unstable ↦ (
            let next = state_after (i ∷ []) state in
            let rest = sweep next i (length-state_after (i ∷ []) state ∙ long) (omega (arith, few)) in (
              (i ∷ []) ∷ rest.0,
              record {
                run = (one-step state i (omega (arith, few)) unstable, rest.1.run);
                moves = λ j bit below waits. elim (cases_lt j i) [
                  | inl lower ↦ rest.1.moves j bit lower waits.1
                  | inr upper ↦ (
                      let same : j ≡ i = omega (arith, below, upper) in
                      let here : bit_at state i ≡ bit = subst (λ (n : ℕ). bit_at state n ≡ bit) same waits.0.0 in
                      let there : bit_at next i ≡ bit = subst (λ (n : ℕ). bit_at next n ≡ bit) same (waits-first net input next rest.0 j bit waits.1).0 in
                      not-same bit (ap not (sym here) ∙ (sym (flipped state i (omega (arith, few, long))) ∙ there))
                      )
                ];
              },
            )
            )
        | inr stable ↦ (
            let rest = sweep state i long (omega (arith, few)) in (
              rest.0,
              record {
                run = rest.1.run;
                moves = λ j bit below waits. elim (cases_lt j i) [
                  | inl lower ↦ rest.1.moves j bit lower waits
                  | inr upper ↦ (
                      let same : j ≡ i = omega (arith, below, upper) in
                      let unstable = true-unstable net input state i (subst (IsUnstable net input state) same (waits-first net input state rest.0 j bit waits).1) in
                      false≢true (sym stable ∙ unstable)
                      )
                ];
              },
            )
            )
      ]

  -- each variable has its turn
  whole : (state : List Bool) → length state ≡ length net → (steps : List (List ℕ)) × IsSweep net input state (length net) steps
  whole state long = sweep state (length net) long (omega arith)

  module _ (start : List Bool) (long : length start ≡ length net) where
    -- the state after so many sweeps
    abbrev after : ℕ → (state : List Bool) × (length state ≡ length net)
    after zero = (start, long)
    after (suc count) =
        let now = after count in
        let steps = (whole now.0 now.1).0 in
        (end_of now.0 steps, length-end_of now.0 steps ∙ now.1)

    onward : (count more : ℕ) → IsReachable net input (after count).0 (after (further count more)).0
    onward count zero = ([], tt, refl)
    onward count (suc more) =
        let now = after (further count more) in
        let last = whole now.0 now.1 in
        IsReachable-onward net input (after count).0 now.0 (end_of now.0 last.0) (onward count more) (last.0, last.1.run, refl)

    outcome : (state : List Bool) × IsOutcome net input start state
    outcome =
        let again = returns (λ count. code (after count).0) (twos (length net))
        (λ count. subst (λ (n : ℕ). code (after count).0 < twos n) (after count).1 (code-bound (after count).0)) in
        let later = again.later in
        let place = again.met.place in
        let there = after place in
        let back : (after later).0 ≡ there.0 = sym (code-same there.0 (after later).0 (there.1 ∙ sym (after later).1) again.met.is) in
        let first = whole there.0 there.1 in
        let count : further (suc place) (later - suc place) ≡ later = omega (arith, further-sum (suc place) (later - suc place), again.met.below) in
        let more : IsReachable net input (end_of there.0 first.0) there.0 =
        subst (IsReachable net input (end_of there.0 first.0)) (ap (λ (n : ℕ). (after n).0) count ∙ back) (onward (suc place) (later - suc place)) in
        let moves = first.1.moves in (
          there.0,
          record {
            first = there.0;
            steps = first.0 ++ more.0;
            cycle = record {
              cycle = record {
                run = IsRun-append net input there.0 first.0 more.0 first.1.run more.1;
                closed = end_of-append there.0 first.0 more.0 ∙ more.2;
                alone = λ none i inside. same-bit (bit_at there.0 i) _ (λ unstable.
                    moves i (bit_at there.0 i) inside (subst (λ (steps : List (List ℕ)). WaitsAt net input there.0 steps i (bit_at there.0 i)) (sym (no-front first.0 more.0 none)) ((refl, unstable), tt)));
              };
              lasts = λ waits. moves waits.0 waits.2.0 waits.1 (waits-front net input there.0 first.0 more.0 waits.0 waits.2.0 waits.2.1);
            };
            member = there.0;
            on_cycle = contains-first there.0 (first.0 ++ more.0);
            reached = subst (λ (n : ℕ). IsReachable net input start (after n).0) (let same : further 0 place ≡ place = omega (arith, further-sum 0 place) in same) (onward 0 place);
            onward = ([], tt, refl);
          },
        )

pub outcomes_exist : OutcomesExist
outcomes_exist net input start long = outcome net input start long

-- one input after the other
outcomes-along : (net : List Driver) (inputs : List (List Bool)) (start : List Bool) → length start ≡ length net → (state : List Bool) × IsOutcomeAlong net start inputs state
outcomes-along net [] start long = (start, refl)
outcomes-along net (input ∷ inputs) start long =
    let next = outcomes_exist net input start long in
    let last = outcomes-along net inputs next.0 (outcome-length next.1 ∙ long) in
    (last.0, (next.0, next.1, last.1))
  where
    outcome-length : {state : List Bool} → IsOutcome net input start state → length state ≡ length start
    outcome-length {state} outcome =
        sym (ap (length {A = Bool}) outcome.onward.2) ∙ (length-end_of outcome.member outcome.onward.0
        ∙ (sym (ap (length {A = Bool}) outcome.reached.2) ∙ length-end_of start outcome.reached.0))

pub outcomes_exist_along : OutcomesExistAlong
outcomes_exist_along net inputs start long = outcomes-along net inputs start long
