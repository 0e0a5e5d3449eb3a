-- All outcome states of runs that keep orders refine what words that are inductive under them narrow to.
use Rattle.std.proofs.Common.{◌≡◌, ◌≢◌, ℕ, zero, suc, ◌<◌, ◌≤◌, Bool, true, false, not, cond, List, [], ◌∷◌, ◌++◌, length, take, IsTrue, refl, sym, ap, ◌∙◌, subst, arith, inl, inr}
use Rattle.hz_orders.proofs.Words.{◌==◌, cases_Bool, length-map, get_or-map, take-length, Tri, Zero, Unknown, Refines, Netlist, IsCircuit, IsWhole, Driver, network_of, bit_at}
use Rattle.hz_orders.proofs.Words.{value_at, driver_at, excitation, IsStableStart, is_listed, state_after, IsRun, end_of, length-end_of, Count, Exact, Many, Word, change_between}
use Rattle.hz_orders.proofs.Words.{constant_word, changes_along, IsAtMost, told_at, Order, Keeps, IsInductiveUnder, told_value}
use Rattle.std.specs.List.{AllByRecursion}
use Rattle.std.proofs.lemmas.Bool.{eqb-true}
use Rattle.hz_core.specs.declared.tri.Tri.TheVariants.{One}
use Rattle.hz_core.specs.Ternary.{tri_of, admits}
use Rattle.hz_core.proofs.Refinements.{admits-tri_of, known-admits, Refines-get_or, get_or-Refines}
use Rattle.hz_net.specs.Network.{driver_value3, IsUnstable}
use Rattle.hz_net.specs.Passes.{excitations}
use Rattle.hz_net.proofs.Excitations.{admits-driver_value, length-excitations, at-excitations}
use Rattle.hz_gmw.specs.Runs.{states_of}
use Rattle.hz_gmw.specs.Cycles.{IsNontransient}
use Rattle.hz_gmw.proofs.Flips.{length-state_after, at-state_after}
use Rattle.hz_gmw.proofs.Paths.{end_of-append, IsRun-rest, IsCut, value-somewhere}
use Rattle.hz_orders.specs.Outcomes.{IsKeptOutcome, told_values, narrow_of, narrow_each, narrowings}
use Rattle.hz_orders.proofs.Under.{all-bounded, none-held}

-- what holds of each state of a run, by the steps that lead to it
abbrev pub HoldsAlong : (List Bool → Type 0) → List Bool → List (List ℕ) → Type 0
HoldsAlong P state steps = (k : ℕ) → P (end_of state (take k steps))

-- it holds along the rest
pub holds-rest : (P : List Bool → Type 0) (state : List Bool) (lead more : List (List ℕ)) → HoldsAlong P state (lead ++ more) → HoldsAlong P (end_of state lead) more
holds-rest P state [] more along = along
holds-rest P state (flips ∷ lead) more along = holds-rest P (state_after flips state) lead more (λ k. along (suc k))

-- a variable that has the bit to which it is driven keeps it in a step
kept : (listed now excited bit : Bool) → (listed ≡ true → now ≢ excited) → now ≡ bit → excited ≡ bit → cond listed (not now) now ≡ bit
kept false now excited bit unstable has driven = has
kept true now excited bit unstable has driven = absurd (unstable refl (has ∙ sym driven))

not-itself : (bit : Bool) → not bit ≡ bit → ⊥
not-itself false e = cc
not-itself true e = cc

module _ (net : List Driver) (input : List Bool) (i : ℕ) (inside : i < length net) (bit : Bool) where
  -- along a run the variable is driven to the bit
  abbrev IsDriven : List Bool → List (List ℕ) → Type 0
  IsDriven state steps = HoldsAlong (λ now. excitation net input now i ≡ bit) state steps

  one-step : (state : List Bool) (flips : List ℕ) (steps : List (List ℕ)) → length state ≡ length net → IsRun net input state (flips ∷ steps) → IsDriven state (flips ∷ steps) → bit_at state i ≡ bit → bit_at (state_after flips state) i ≡ bit
  one-step state flips steps long run driven has =
      at-state_after flips state i (omega (arith, inside, long)) ∙ kept (is_listed flips i) (bit_at state i) (excitation net input state i) bit (run.0.unstable i) has (driven 0)

  stays : (state : List Bool) (steps : List (List ℕ)) → length state ≡ length net → IsRun net input state steps → IsDriven state steps → bit_at state i ≡ bit → HoldsAlong (λ now. bit_at now i ≡ bit) state steps
  stays state steps long run driven has zero = has
  stays state [] long run driven has (suc k) = has
  stays state (flips ∷ steps) long run driven has (suc k) =
      stays (state_after flips state) steps (length-state_after flips state ∙ long) run.1 (λ k. driven (suc k)) (one-step state flips steps long run driven has) k

  stays-to : (state : List Bool) (steps more : List (List ℕ)) → length state ≡ length net → IsRun net input state (steps ++ more) → IsDriven state (steps ++ more) → bit_at state i ≡ bit → bit_at (end_of state steps) i ≡ bit
  stays-to state [] more long run driven has = has
  stays-to state (flips ∷ steps) more long run driven has =
      stays-to (state_after flips state) steps more (length-state_after flips state ∙ long) run.1 (λ k. driven (suc k)) (one-step state flips (steps ++ more) long run driven has)

  -- where it has the bit in the middle, it has it at the end
  stays-from : (state : List Bool) (earlier later more : List (List ℕ)) → length state ≡ length net → IsRun net input state ((earlier ++ later) ++ more) → IsDriven state ((earlier ++ later) ++ more) → bit_at (end_of state earlier) i ≡ bit → bit_at (end_of state (earlier ++ later)) i ≡ bit
  stays-from state [] later more long run driven has = stays-to state later more long run driven has
  stays-from state (flips ∷ earlier) later more long run driven has =
      stays-from (state_after flips state) earlier later more (length-state_after flips state ∙ long) run.1 (λ k. driven (suc k)) has

  -- where it has the other bit throughout, it waits
  waits : (state : List Bool) (steps more : List (List ℕ)) → IsDriven state (steps ++ more) → AllByRecursion (λ now. bit_at now i ≡ not bit) (states_of state steps) → AllByRecursion (λ now. (bit_at now i ≡ not bit) × IsUnstable net input now i) (states_of state steps)
  waits state [] more driven has = ((has.0, λ same. not-itself bit (sym has.0 ∙ (same ∙ driven 0))), tt)
  waits state (flips ∷ steps) more driven has =
      ((has.0, λ same. not-itself bit (sym has.0 ∙ (same ∙ driven 0))), waits (state_after flips state) steps more (λ k. driven (suc k)) has.1)

  -- round a nontransient cycle and onward it has the bit
  pub has-throughout : (first : List Bool) (round onward : List (List ℕ)) → length first ≡ length net → IsNontransient net input first round → IsRun net input first (round ++ onward) → IsDriven first (round ++ onward) → HoldsAlong (λ now. bit_at now i ≡ bit) first (round ++ onward)
  has-throughout first round onward long cycle run driven = stays first (round ++ onward) long run driven began
    where
      back : (member : List Bool) → IsCut first round member → bit_at member i ≡ bit → bit_at first i ≡ bit
      back member cut has =
          let run' : IsRun net input first ((cut.earlier ++ cut.later) ++ onward) = subst (λ (ss : List (List ℕ)). IsRun net input first (ss ++ onward)) (sym cut.whole) run in
          let driven' : IsDriven first ((cut.earlier ++ cut.later) ++ onward) = subst (λ (ss : List (List ℕ)). IsDriven first (ss ++ onward)) (sym cut.whole) driven in
          let there : bit_at (end_of first cut.earlier) i ≡ bit = ap (λ (s : List Bool). bit_at s i) cut.here ∙ has in
          let ends : end_of first (cut.earlier ++ cut.later) ≡ first = ap (end_of first) cut.whole ∙ cycle.cycle.closed in
          ap (λ (s : List Bool). bit_at s i) (sym ends) ∙ stays-from first cut.earlier cut.later onward long run' driven' there

      began : bit_at first i ≡ bit
      began =
          elim (value-somewhere first round i bit) [
            | inl found ↦ back found.0 found.1 found.2
            | inr other ↦ absurd (cycle.lasts (i, inside, (not bit, waits first round onward driven other)))
          ]

-- narrowing, variable by variable
length-narrow_each : (values excited : List Tri) → length values ≡ length excited → length (narrow_each values excited) ≡ length values
length-narrow_each [] excited same = refl
length-narrow_each (value ∷ values) [] same = cc
length-narrow_each (value ∷ values) (asked ∷ excited) same = ap suc (length-narrow_each values excited (omega (arith, same)))

at-narrow_each : (values excited : List Tri) → length values ≡ length excited → (i : ℕ) → i < length values → value_at (narrow_each values excited) i ≡ narrow_of (value_at values i) (value_at excited i)
at-narrow_each [] excited same i few = absurd (omega arith)
at-narrow_each (value ∷ values) [] same i few = absurd (omega arith)
at-narrow_each (value ∷ values) (asked ∷ excited) same zero few = refl
at-narrow_each (value ∷ values) (asked ∷ excited) same (suc i) few = at-narrow_each values excited (omega (arith, same)) i (omega arith)

length-narrowings : (net : List Driver) (input : List Bool) (first : List Tri) (round : ℕ) → length first ≡ length net → length (narrowings net input first round) ≡ length net
length-narrowings net input first zero long = long
length-narrowings net input first (suc round) long =
    let before = length-narrowings net input first round long in
    length-narrow_each (narrowings net input first round) (excitations net input (narrowings net input first round)) (before ∙ sym (length-excitations net input (narrowings net input first round))) ∙ before

-- a narrowed value admits a bit that its value admits, and that equals each bit that the excitation is
pub admits-narrow : (value asked : Tri) (here : Bool) → IsTrue (admits value here) → ((bit : Bool) → asked ≡ tri_of bit → here ≡ bit) → IsTrue (admits (narrow_of value asked) here)
admits-narrow Zero asked here admitted known = admitted
admits-narrow One asked here admitted known = admitted
admits-narrow Unknown Zero here admitted known = rw (known false refl) refl
admits-narrow Unknown One here admitted known = rw (known true refl) refl
admits-narrow Unknown Unknown false admitted known = refl
admits-narrow Unknown Unknown true admitted known = refl

module _ (net : List Driver) (input first : List Bool) (round onward : List (List ℕ)) (long : length first ≡ length net) (cycle : IsNontransient net input first round) (run : IsRun net input first (round ++ onward)) where
  one-round : (values : List Tri) → length values ≡ length net → HoldsAlong (λ now. Refines now values) first (round ++ onward) → HoldsAlong (λ now. Refines now (narrow_each values (excitations net input values))) first (round ++ onward)
  one-round values long' refined k =
      let now_long : length (end_of first (take k (round ++ onward))) ≡ length net = length-end_of first (take k (round ++ onward)) ∙ long in
      let same : length values ≡ length (excitations net input values) = long' ∙ sym (length-excitations net input values) in
      Refines-get_or (end_of first (take k (round ++ onward))) (narrow_each values (excitations net input values)) (now_long ∙ (sym long' ∙ sym (length-narrow_each values (excitations net input values) same))) (λ i few.
      let here : i < length net = omega (arith, few, now_long) in
      let there : i < length values = omega (arith, here, long') in
      let at : value_at (narrow_each values (excitations net input values)) i ≡ narrow_of (value_at values i) (driver_value3 input values (driver_at net i)) =
      at-narrow_each values (excitations net input values) same i there ∙ ap (narrow_of (value_at values i)) (at-excitations net input values i here) in
      subst (λ (v : Tri). IsTrue (admits v (bit_at (end_of first (take k (round ++ onward))) i))) (sym at)
      (admits-narrow (value_at values i) (driver_value3 input values (driver_at net i)) (bit_at (end_of first (take k (round ++ onward))) i)
      (get_or-Refines (end_of first (take k (round ++ onward))) values (refined k) i)
      (λ bit known.
      has-throughout net input i here bit first round onward long cycle run
      (λ k'. known-admits bit (excitation net input (end_of first (take k' (round ++ onward))) i)
      (subst (λ (v : Tri). IsTrue (admits v (excitation net input (end_of first (take k' (round ++ onward))) i))) known
      (admits-driver_value input (end_of first (take k' (round ++ onward))) values (refined k') (driver_at net i))))
      k)))

  each-round : (values : List Tri) → length values ≡ length net → HoldsAlong (λ now. Refines now values) first (round ++ onward) → (n : ℕ) → HoldsAlong (λ now. Refines now (narrowings net input values n)) first (round ++ onward)
  each-round values long' refined zero = refined
  each-round values long' refined (suc n) = one-round (narrowings net input values n) (length-narrowings net input values n long') (each-round values long' refined n)

-- a variable that does not change ends as it began
same-bits : (a b : Bool) → change_between a b ≤ 0 → a ≡ b
same-bits true true none = refl
same-bits true false none = absurd (omega (arith, none))
same-bits false true none = absurd (omega (arith, none))
same-bits false false none = refl

pub unchanged : (f : List Bool → Bool) (state : List Bool) (steps : List (List ℕ)) → changes_along f state steps ≤ 0 → f (end_of state steps) ≡ f state
unchanged f state [] none = refl
unchanged f state (flips ∷ steps) none =
    unchanged f (state_after flips state) steps (omega (arith, none)) ∙ sym (same-bits (f state) (f (state_after flips state)) (omega (arith, none)))

pub admits-unknown : (bit : Bool) → IsTrue (admits Unknown bit)
admits-unknown true = refl
admits-unknown false = refl

admits-told : (letter here : Bool) (count : Count) (n : ℕ) → IsAtMost (Exact n) count → (n ≤ 0 → here ≡ letter) → IsTrue (admits (told_value (record { first = letter; changes = count })) here)
admits-told letter here (Exact c) n below same =
    elim (cases_Bool (c == 0)) [
      | inl none ↦ let zero : c ≡ 0 = eqb-true c 0 none in rw (none, same (omega (arith, below, zero))) (admits-tri_of letter)
      | inr some ↦ rw some (admits-unknown here)
    ]
admits-told letter here Many n below same = admits-unknown here

module _ (orders : List Order) (netlist : Netlist) (circuit : IsCircuit netlist) (netlist_whole : IsWhole netlist) (input start : List Bool) (begins : IsStableStart netlist start) (cap : ℕ) (told : List Word) (is : IsInductiveUnder orders (network_of netlist) input start cap told) where
  pub told-refined : (steps : List (List ℕ)) → IsRun (network_of netlist) input start steps → Keeps orders start steps → HoldsAlong (λ now. Refines now (told_values told)) start steps
  told-refined steps run keeps k =
      let now_long : length (end_of start (take k steps)) ≡ length (network_of netlist) = length-end_of start (take k steps) ∙ begins.long in
      let values_long : length (told_values told) ≡ length (network_of netlist) = length-map told told_value ∙ is.long in
      Refines-get_or (end_of start (take k steps)) (told_values told) (now_long ∙ sym values_long) (λ i few.
      let here : i < length (network_of netlist) = omega (arith, few, now_long) in
      let long = is.long in
      let at : value_at (told_values told) i ≡ told_value (told_at told i) = get_or-map told_value told i (constant_word false) Zero (omega (arith, here, long)) in
      let bound = all-bounded netlist circuit netlist_whole input start begins cap [] orders told is steps run keeps k i here (none-held start steps k) in
      subst (λ (v : Tri). IsTrue (admits v (bit_at (end_of start (take k steps)) i))) (sym at)
      (admits-told (told_at told i).first (bit_at (end_of start (take k steps)) i) (told_at told i).changes (changes_along (λ s. bit_at s i) start (take k steps)) bound
      (λ none. unchanged (λ s. bit_at s i) start (take k steps) none ∙ sym (is.begins i here))))

  pub outcomes-refine : (state : List Bool) (round : ℕ) → IsKeptOutcome orders (network_of netlist) input start state → Refines state (narrowings (network_of netlist) input (told_values told) round)
  outcomes-refine state round outcome =
      let first_long : length (end_of start outcome.lead) ≡ length (network_of netlist) = length-end_of start outcome.lead ∙ begins.long in
      let values_long : length (told_values told) ≡ length (network_of netlist) = length-map told told_value ∙ is.long in
      let along = told-refined (outcome.lead ++ (outcome.round ++ outcome.onward)) outcome.run outcome.keeps in
      let there = holds-rest (λ now. Refines now (told_values told)) start outcome.lead (outcome.round ++ outcome.onward) along in
      let run = IsRun-rest (network_of netlist) input start outcome.lead (outcome.round ++ outcome.onward) outcome.run in
      let each = each-round (network_of netlist) input (end_of start outcome.lead) outcome.round outcome.onward first_long outcome.cycle run (told_values told) values_long there round in
      let ends : end_of (end_of start outcome.lead) (take (length (outcome.round ++ outcome.onward)) (outcome.round ++ outcome.onward)) ≡ state =
      ap (end_of (end_of start outcome.lead)) (take-length (outcome.round ++ outcome.onward))
      ∙ (sym (end_of-append start outcome.lead (outcome.round ++ outcome.onward)) ∙ outcome.ends) in
      subst (λ (s : List Bool). Refines s (narrowings (network_of netlist) input (told_values told) round)) ends (each (length (outcome.round ++ outcome.onward)))
