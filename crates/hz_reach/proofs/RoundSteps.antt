-- A settling round is a step, and settles its variables; the rounds can be made one after the other.
use Rattle.std.proofs.Common.{◌≡◌, ◌≢◌, ℕ, zero, suc, ◌+◌, ◌-◌, ◌<◌, ◌≤◌, ◌⊎◌, ◌&&◌, Bool, true, false, not, List, [], length, refl, sym, ap, ◌∙◌, subst, arith, inl, inr, eqb, IsTrue, sum_by}
use Rattle.hz_reach.proofs.Words.{cases_Bool, cases_lt, both_ways, and_parts, and_from, not-true, not_from_false, false_from_ne_true, get_or-le-sum_by, Tri}
use Rattle.hz_reach.proofs.Words.{Zero, One, Unknown, admits, is_below, AllBelow, Refines, length-Refines, get_or-Refines, Refines-get_or, get_or-AllBelow}
use Rattle.hz_reach.proofs.Words.{Driver, driver_at, bit_at, value_at, excitation, IsUnstable, excitations, algorithm_b, IsKnown, IsUnknown, IsFirstRound}
use Rattle.hz_reach.proofs.Words.{IsSettlingRound, admits-driver_value, at-excitations, length-algorithm_b, is_listed, IsRepeatFree, IsStep, IsRun}
use Rattle.hz_reach.proofs.Words.{state_after, end_of, length-end_of, filtered_range, key_at, with_step_if_any, changes_in, AllBelow-excitations}
use Rattle.std.proofs.lemmas.Bool.{eqb-true, eq-eqb}
use Rattle.hz_reach.proofs.FilteredRangeLemmas.{filtered_range-is, is-filtered_range, filtered_range-once}
use Rattle.hz_net.proofs.RestRounds.{either-value}
use Rattle.hz_reach.proofs.GateTurn.{state_after-listed, state_after-unlisted}
use Rattle.hz_reach.proofs.ListPlaces.{key-inside}
use Rattle.hz_reach.proofs.Room.{end_of-after, run-after}
use Rattle.hz_reach.specs.Rounds.{AreRoundsOf, IsSettlingRun}
use Rattle.hz_reach.proofs.SettledVariables.{admits-unknown, below-first}
use Rattle.hz_reach.proofs.StepLemmas.{changes-after, listed-none, unchanged-end}
use Rattle.hz_reach.proofs.FlipCounts.{listed}

-- Values

-- a value below a known one is that value
below-known : (small large : Tri) → IsKnown large → IsTrue (is_below small large) → small ≡ large
below-known Zero Zero known below = refl
below-known Zero One known below = cc
below-known One Zero known below = cc
below-known One One known below = refl
below-known Unknown Zero known below = cc
below-known Unknown One known below = cc
below-known small Unknown known below = absurd (known refl)

-- one of two bits is admitted
other-admitted : (value : Tri) (bit : Bool) → admits value bit ≡ false → IsTrue (admits value (not bit))
other-admitted Zero false out = cc
other-admitted Zero true out = refl
other-admitted One false out = refl
other-admitted One true out = cc
other-admitted Unknown false out = cc
other-admitted Unknown true out = cc

settling-first : (sequence : ℕ → List Tri) (i : ℕ) (first result : Tri) (round : ℕ) → IsSettlingRound sequence i first result round → round ≢ 0 → IsUnknown first × IsKnown result × IsFirstRound sequence i IsKnown round
settling-first sequence i Zero result round is some = absurd (some is)
settling-first sequence i One result round is some = absurd (some is)
settling-first sequence i Unknown Zero round is some = (refl, (λ e. cc), is)
settling-first sequence i Unknown One round is some = (refl, (λ e. cc), is)
settling-first sequence i Unknown Unknown round is some = absurd (some is)

first-settling : (sequence : ℕ → List Tri) (i : ℕ) (first result : Tri) (round : ℕ) → IsSettlingRound sequence i first result round → IsUnknown first → IsKnown result → IsFirstRound sequence i IsKnown round
first-settling sequence i Zero result round is unknown known = cc
first-settling sequence i One result round is unknown known = cc
first-settling sequence i Unknown Zero round is unknown known = is
first-settling sequence i Unknown One round is unknown known = is
first-settling sequence i Unknown Unknown round is unknown known = absurd (known refl)

-- After the rounds below a number: the variables that settle in them have their values, and no others have changed.
pub record IsSettledTo (net : List Driver) (input : List Bool) (when : List ℕ) (b : List Tri) (begun : List Bool) (round : ℕ) (made : List (List ℕ)) (state : List Bool) : Type 0 where
  pub run : IsRun net input begun made
  pub ends : end_of begun made ≡ state
  pub done : (i : ℕ) → key_at when i ≢ 0 → key_at when i < round → IsTrue (admits (value_at b i) (bit_at state i))
  pub once : (i : ℕ) → changes_in made i ≤ 1
  pub still : (i : ℕ) → (key_at when i ≡ 0) ⊎ (round ≤ key_at when i) → changes_in made i ≡ 0

-- The variables that change in a round: those of the round that have not their values.
pub record AreRoundFlips (when : List ℕ) (b : List Tri) (state : List Bool) (round : ℕ) (flips : List ℕ) : Type 0 where
  pub once : IsRepeatFree flips
  pub only : (i : ℕ) → is_listed flips i ≡ true → (key_at when i ≡ round) × (admits (value_at b i) (bit_at state i) ≡ false)
  pub all : (i : ℕ) → key_at when i ≡ round → admits (value_at b i) (bit_at state i) ≡ false → is_listed flips i ≡ true

pub settled-begin : (net : List Driver) (input : List Bool) (when : List ℕ) (b : List Tri) (begun : List Bool) → IsSettledTo net input when b begun 1 [] begun
settled-begin net input when b begun = record {
  run = tt;
  ends = refl;
  done = λ i some less. absurd (some (omega (arith, less)));
  once = λ i. omega arith;
  still = λ i either. refl;
}

-- rounds in which no variable settles
pub settled-skip :
    {net : List Driver} {input : List Bool} {when : List ℕ} {b : List Tri} {begun : List Bool} {round later : ℕ} {made : List (List ℕ)} {state : List Bool} →
    IsSettledTo net input when b begun round made state → round ≤ later → ((i : ℕ) → key_at when i ≢ 0 → key_at when i < later → key_at when i < round) →
    IsSettledTo net input when b begun later made state
settled-skip settled more none = record {
  run = settled.run;
  ends = settled.ends;
  done = λ i some less. settled.done i some (none i some less);
  once = settled.once;
  still = λ i either. settled.still i (elim either [ inl zero_key ↦ inl zero_key | inr late ↦ inr (omega (arith, more, late)) ]);
}

module _ {net : List Driver} {input : List Bool} {a : List Tri} {when : List ℕ} {b : List Tri} {begun : List Bool} (rounds : AreRoundsOf net input a when b begun) where
  abbrev sequence : ℕ → List Tri
  sequence = algorithm_b net input a

  at-rest : algorithm_b net input a (suc rounds.result.0) ≡ algorithm_b net input a rounds.result.0
  at-rest = rest rounds.result.0 rounds.result.1.some rounds.result.1.settled
    where
      rest : (round : ℕ) → 1 ≤ round → algorithm_b net input a round ≡ algorithm_b net input a (round - 1) → algorithm_b net input a (suc round) ≡ algorithm_b net input a round
      rest zero some same = absurd (omega (arith, some))
      rest (suc round) some same =
          let before : suc round - 1 ≡ round = omega arith in
          ap (excitations net input) (same ∙ ap (algorithm_b net input a) before)

  -- the result lies below each state, since it lies below the first and a round keeps the order
  result-lower : (round : ℕ) → AllBelow b (algorithm_b net input a round)
  result-lower zero = subst (λ (values : List Tri). AllBelow values a) (sym rounds.result.2) (below-first net input a rounds.above rounds.result.0)
  result-lower (suc round) =
      subst (λ (values : List Tri). AllBelow values (algorithm_b net input a (suc round))) (ap (excitations net input) rounds.result.2 ∙ (at-rest ∙ sym rounds.result.2))
      (AllBelow-excitations net input b (algorithm_b net input a round) (result-lower round))

  result-below : (round i : ℕ) → IsTrue (is_below (value_at b i) (value_at (algorithm_b net input a round) i))
  result-below round i = get_or-AllBelow b (algorithm_b net input a round) (result-lower round) i

  net-long : length b ≡ length net
  net-long = ap (length {A = Tri}) rounds.result.2 ∙ length-algorithm_b net input a rounds.long rounds.result.0

  when-inside : (i : ℕ) → key_at when i ≢ 0 → i < length a
  when-inside i some = omega (arith, key-inside when i some, rounds.rounds.long)

  when-first : (i : ℕ) → key_at when i ≢ 0 → IsUnknown (value_at a i) × IsKnown (value_at b i) × IsFirstRound (algorithm_b net input a) i IsKnown (key_at when i)
  when-first i some = settling-first (algorithm_b net input a) i (value_at a i) (value_at b i) (key_at when i) (rounds.rounds.each i (when-inside i some)) some

  -- what becomes known has a settling round, and that is the first in which it is known
  settles : (i : ℕ) → i < length a → IsUnknown (value_at a i) → IsKnown (value_at b i) → (key_at when i ≢ 0) × IsFirstRound (algorithm_b net input a) i IsKnown (key_at when i)
  settles i inside unknown known =
      let first : IsFirstRound (algorithm_b net input a) i IsKnown (key_at when i) =
      first-settling (algorithm_b net input a) i (value_at a i) (value_at b i) (key_at when i) (rounds.rounds.each i inside) unknown known in
      ((λ none. subst (λ (n : ℕ). IsKnown (value_at (algorithm_b net input a n) i)) none first.there unknown), first)

  module _ {round : ℕ} {made : List (List ℕ)} {state : List Bool} (settled : IsSettledTo net input when b begun round made state) where
    state-long : length state ≡ length net
    state-long = ap (length {A = Bool}) (sym settled.ends) ∙ (length-end_of begun made ∙ (length-Refines begun a rounds.refined ∙ rounds.long))

    -- the state refines values from which the result takes what is known, if what becomes known in them has settled
    refines-settled : (values : List Tri) → length values ≡ length net → ((i : ℕ) → IsKnown (value_at values i) → value_at b i ≡ value_at values i) → ((i : ℕ) → i < length a → IsUnknown (value_at a i) → IsKnown (value_at values i) → (key_at when i ≢ 0) × (key_at when i < round)) → Refines state values
    refines-settled values long equal early =
        Refines-get_or state values (state-long ∙ sym long) (λ i inside.
        elim (either-value (value_at values i)) [
          | inl unknown ↦ admits-unknown (value_at values i) (bit_at state i) unknown
          | inr known ↦ subst (λ (value : Tri). IsTrue (admits value (bit_at state i))) (equal i known) (elim (either-value (value_at a i)) [
            | inl was_unknown ↦ (let is = early i (omega (arith, inside, state-long, rounds.long)) was_unknown known in settled.done i is.0 is.1)
            | inr was_known ↦
                subst (λ (bit : Bool). IsTrue (admits (value_at b i) bit)) (sym (kept i was_known))
                (subst (λ (value : Tri). IsTrue (admits value (bit_at begun i))) (sym (below-known _ _ was_known (result-below 0 i))) (get_or-Refines begun a rounds.refined i))
          ])
        ])
      where
        unsettling : (i : ℕ) → IsKnown (value_at a i) → key_at when i ≡ 0
        unsettling i known = elim (cases_lt 0 (key_at when i)) [
          | inl some ↦ absurd (known (when-first i (λ none. omega (arith, some, none))).0)
          | inr none ↦ omega (arith, none)
        ]

        kept : (i : ℕ) → IsKnown (value_at a i) → bit_at state i ≡ bit_at begun i
        kept i known = ap (λ (s : List Bool). bit_at s i) (sym settled.ends) ∙ unchanged-end begun made i (settled.still i (inl (unsettling i known)))

    -- The next round.
    module _ {flips : List ℕ} (some_round : round ≢ 0) (are : AreRoundFlips when b state round flips) where
      -- the state refines the state of Algorithm B before the round
      refines-before : Refines state (algorithm_b net input a (round - 1))
      refines-before =
          refines-settled (algorithm_b net input a (round - 1)) (length-algorithm_b net input a rounds.long (round - 1))
          (λ i known. below-known _ _ known (result-below (round - 1) i))
          (λ i inside unknown known.
          let first = settles i inside unknown (λ e. known (sym (below-known _ _ known (result-below (round - 1) i)) ∙ e)) in (
            first.0,
            elim (cases_lt (round - 1) (key_at when i)) [
              | inl late ↦ absurd (first.1.least (round - 1) late known)
              | inr early ↦ omega (arith, early, some_round)
            ],
          ))

      flips-some : (i : ℕ) → is_listed flips i ≡ true → key_at when i ≢ 0
      flips-some i there none = some_round (sym (are.only i there).0 ∙ none)

      flips-inside : (i : ℕ) → is_listed flips i ≡ true → i < length net
      flips-inside i there = omega (arith, when-inside i (flips-some i there), rounds.long)

      flips-unstable : (i : ℕ) → is_listed flips i ≡ true → IsUnstable net input state i
      flips-unstable i there same =
          let is = are.only i there in
          let next : key_at when i ≡ suc (round - 1) = omega (arith, is.0, some_round) in
          let known : IsKnown (value_at (algorithm_b net input a (suc (round - 1))) i) =
          subst (λ (n : ℕ). IsKnown (value_at (algorithm_b net input a n) i)) next (when-first i (flips-some i there)).2.there in
          let equal : value_at b i ≡ value_at (algorithm_b net input a (suc (round - 1))) i = below-known _ _ known (result-below (suc (round - 1)) i) in
          let excited : IsTrue (admits (value_at b i) (excitation net input state i)) =
          subst (λ (value : Tri). IsTrue (admits value (excitation net input state i))) (sym (equal ∙ at-excitations net input (algorithm_b net input a (round - 1)) i (flips-inside i there)))
          (admits-driver_value input state (algorithm_b net input a (round - 1)) refines-before (driver_at net i)) in
          both_ways _ is.1 (subst (λ (bit : Bool). IsTrue (admits (value_at b i) bit)) (sym same) excited)

      done-after : (i : ℕ) → key_at when i ≢ 0 → key_at when i < suc round → IsTrue (admits (value_at b i) (bit_at (state_after flips state) i))
      done-after i some less =
          elim (cases_Bool (is_listed flips i)) [
            | inl there ↦
                subst (λ (bit : Bool). IsTrue (admits (value_at b i) bit)) (sym (state_after-listed flips state i (omega (arith, flips-inside i there, state-long)) there))
                (other-admitted (value_at b i) (bit_at state i) (are.only i there).1)
            | inr stays ↦
                subst (λ (bit : Bool). IsTrue (admits (value_at b i) bit)) (sym (state_after-unlisted flips state i stays))
                (elim (cases_lt (key_at when i) round) [
                  | inl early ↦ settled.done i some early
                  | inr now ↦ elim (cases_Bool (admits (value_at b i) (bit_at state i))) [
                    | inl has ↦ has
                    | inr lacks ↦ absurd (both_ways _ stays (are.all i (omega (arith, now, less)) lacks))
                  ]
                ])
          ]

      once-after : (i : ℕ) → changes_in (with_step_if_any made flips) i ≤ 1
      once-after i =
          elim (cases_Bool (is_listed flips i)) [
            | inl there ↦ (
                let one : listed flips i ≡ 1 = rw there refl in
                omega (arith, changes-after made flips i, one, settled.still i (inr (omega (arith, (are.only i there).0))))
                )
            | inr stays ↦ omega (arith, changes-after made flips i, listed-none flips i stays, settled.once i)
          ]

      still-after : (i : ℕ) → (key_at when i ≡ 0) ⊎ (suc round ≤ key_at when i) → changes_in (with_step_if_any made flips) i ≡ 0
      still-after i either =
          let apart : key_at when i ≢ round = λ here. elim either [ inl none ↦ some_round (sym here ∙ none) | inr late ↦ omega (arith, late, here) ] in
          let before = settled.still i (elim either [ inl none ↦ inl none | inr late ↦ inr (omega (arith, late)) ]) in
          omega (arith, changes-after made flips i, before, listed-none flips i (false_from_ne_true _ (λ there. apart (are.only i there).0)))

      -- after the round
      pub settled-after : IsSettledTo net input when b begun (suc round) (with_step_if_any made flips) (state_after flips state)
      settled-after = record {
        run = run-after net input begun made flips settled.run (λ some. subst (λ (s : List Bool). IsStep net input s flips) (sym settled.ends)
            (record { some = some; once = are.once; inside = flips-inside; unstable = flips-unstable }));
        ends = end_of-after begun made flips ∙ ap (state_after flips) settled.ends;
        done = done-after;
        once = once-after;
        still = still-after;
      }

    -- after all rounds
    pub settled-end : ((i : ℕ) → key_at when i ≢ 0 → key_at when i < round) → IsSettlingRun net input when b begun made state
    settled-end all = record {
      run = settled.run;
      ends = settled.ends;
      values = refines-settled b net-long (λ i known. refl) (λ i inside unknown known. let some = (settles i inside unknown known).0 in (some, all i some));
      once = settled.once;
      still = λ i none. settled.still i (inl none);
    }

  -- The rounds can be made, one after the other.
  round-flips : (state : List Bool) (round : ℕ) → round ≢ 0 → (flips : List ℕ) × AreRoundFlips when b state round flips
  round-flips state round some =
      let test : ℕ → Bool = λ i. eqb (key_at when i) round && not (admits (value_at b i) (bit_at state i)) in (
        filtered_range test 0 (length when),
        record {
          once = filtered_range-once test 0 (length when);
          only = λ i there. let parts = and_parts _ _ (filtered_range-is test 0 (length when) i there).passes in (eqb-true (key_at when i) round parts.0, not-true _ parts.1);
          all = λ i here lacks.
              let inside = key-inside when i (λ none. some (sym here ∙ none)) in
              let zero_more : 0 + i ≡ i = omega arith in
              subst (λ (n : ℕ). is_listed (filtered_range test 0 (length when)) n ≡ true) zero_more
              (is-filtered_range test 0 (length when) i inside (subst (λ (n : ℕ). test n ≡ true) (sym zero_more) (and_from _ _ (eq-eqb (key_at when i) round here) (not_from_false _ lacks))));
        },
      )

  rounds-to : (count : ℕ) → (made : List (List ℕ)) × ((state : List Bool) × IsSettledTo net input when b begun (suc count) made state)
  rounds-to zero = ([], (begun, settled-begin net input when b begun))
  rounds-to (suc count) =
      let before = rounds-to count in
      let flips = round-flips before.1.0 (suc count) (λ e. cc) in
      (with_step_if_any before.0 flips.0, (state_after flips.0 before.1.0, settled-after before.1.1 (λ e. cc) flips.1))

  pub rounds-found : (steps : List (List ℕ)) × ((end : List Bool) × IsSettlingRun net input when b begun steps end)
  rounds-found =
      let made = rounds-to (sum_by (λ (key : ℕ). key) when) in
      (made.0, (made.1.0, settled-end made.1.1 (λ i some. omega (arith, get_or-le-sum_by (λ (key : ℕ). key) when i 0 (key-inside when i some)))))
