-- The rounds of a pass: what is known after some of them, and that a round more keeps it.
use Rattle.std.proofs.Common.{◌≡◌, ◌≢◌, ℕ, zero, suc, ◌+◌, ◌-◌, ◌<◌, ◌≤◌, ◌⊎◌, Bool, true, false, List, length, slice_index, refl, sym, ap, ◌∙◌, subst, arith, inl, inr}
use Rattle.std.proofs.lemmas.Bool.{cases_lt, false≢true}
use Rattle.hz_core.specs.declared.tri.Tri.{Tri}
use Rattle.hz_net.specs.Network.{Driver, value_at, excitation3}
use Rattle.hz_net.specs.Passes.{AreRounds, IsFirstRound}
use Rattle.hz_pass.specs.declared.round.Rule.{Rule}
use Rattle.hz_pass.specs.Changes.{differing_count}
use Rattle.hz_pass.specs.Frontier.{next_value, next_state, round_states, AreFirstRounds, Falls, is_open, open_weight, IsRound}
use Rattle.hz_pass.proofs.Values.{same-or-differ, falls-at, falls-after, length-next_state, at-next_state, closes, open_weight-ones, sum_by-ones, differing-open}

-- what a round leaves noted of variable i: its number where it changed the variable, else what was noted
pub record IsNotedAfter (number : ℕ) (state next : List Tri) (i before after : ℕ) : Type 0 where
  pub same : value_at next i ≡ value_at state i → after ≡ before
  pub changed : value_at next i ≢ value_at state i → after ≡ number

-- what is known after some rounds, each of which changed something
pub record PassSoFar
    (rule : Rule) (net : List Driver) (input : List Bool) (first : List Tri) (round : ℕ) (state : List Tri) (noted : List ℕ) : Type 0 where
  pub now : state ≡ round_states rule net input first round
  pub least : (k : ℕ) → 1 ≤ k → k ≤ round → round_states rule net input first k ≢ round_states rule net input first (k - 1)
  pub few : round + open_weight rule (λ i. 1) state ≤ length net
  pub firsts : AreFirstRounds (round_states rule net input first) state noted

module _
    (rule : Rule) (net : List Driver) (input : List Bool) (first : List Tri) (long : length first ≡ length net)
    (falls : Falls rule net input first) where
  pub length-states : (round : ℕ) → length (round_states rule net input first round) ≡ length net
  length-states zero = long
  length-states (suc round) = length-next_state rule net input (round_states rule net input first round) (length-states round)

  falls-states : (round : ℕ) → Falls rule net input (round_states rule net input first round)
  falls-states zero = falls
  falls-states (suc round) =
      falls-after rule net input (round_states rule net input first round) (round_states rule net input first (suc round)) refl (falls-states round)

  -- a variable that can't change keeps its value
  closed-next :
      (i round : ℕ) → i < length net → is_open rule (value_at (round_states rule net input first round) i) ≡ false →
      value_at (round_states rule net input first (suc round)) i ≡ value_at (round_states rule net input first round) i
  closed-next i round inside closed =
      let state = round_states rule net input first round in
      elim (same-or-differ (value_at (round_states rule net input first (suc round)) i) (value_at state i)) [
        | inl e ↦ e
        | inr differ ↦ (
            let changes : next_value rule (value_at state i) (excitation3 net input state i) ≢ value_at state i =
            λ e. differ (at-next_state rule net input state i (length-states round) inside ∙ e) in
            absurd (false≢true (sym closed ∙ (closes rule (value_at state i) (excitation3 net input state i) (falls-at rule net input state i inside (falls-states round)) changes).0))
            )
      ]

  closed-on :
      (i round more : ℕ) → i < length net → is_open rule (value_at (round_states rule net input first round) i) ≡ false →
      value_at (round_states rule net input first (more + round)) i ≡ value_at (round_states rule net input first round) i
  closed-on i round zero inside closed =
      ap (λ (n : ℕ). value_at (round_states rule net input first n) i) (let same : zero + round ≡ round = omega arith in same)
  closed-on i round (suc more) inside closed =
      let earlier = closed-on i round more inside closed in
      ap (λ (n : ℕ). value_at (round_states rule net input first n) i) (let same : suc more + round ≡ suc (more + round) = omega arith in same)
      ∙ (closed-next i (more + round) inside (ap (is_open rule) earlier ∙ closed) ∙ earlier)

  pub closed-later :
      (i round later : ℕ) → i < length net → round ≤ later →
      is_open rule (value_at (round_states rule net input first round) i) ≡ false →
      value_at (round_states rule net input first later) i ≡ value_at (round_states rule net input first round) i
  closed-later i round later inside order closed =
      ap (λ (n : ℕ). value_at (round_states rule net input first n) i) (let sum : later ≡ (later - round) + round = omega (arith, order) in sum)
      ∙ closed-on i round (later - round) inside closed

  -- a variable that has changed could change at first, and can't any more
  pub changed-closed :
      (i round : ℕ) → i < length net →
      (value_at (round_states rule net input first round) i ≡ value_at first i)
      ⊎ ((is_open rule (value_at first i) ≡ true) × (is_open rule (value_at (round_states rule net input first round) i) ≡ false))
  changed-closed i zero inside = inl refl
  changed-closed i (suc round) inside =
      let state = round_states rule net input first round in
      let is = at-next_state rule net input state i (length-states round) inside in
      elim (same-or-differ (value_at (round_states rule net input first (suc round)) i) (value_at state i)) [
        | inl same ↦ elim (changed-closed i round inside) [
          | inl was ↦ inl (same ∙ was)
          | inr before ↦ inr (before.0, ap (is_open rule) same ∙ before.1)
        ]
        | inr differ ↦ (
            let shut = closes rule (value_at state i) (excitation3 net input state i) (falls-at rule net input state i inside (falls-states round)) (λ e. differ (is ∙ e)) in
            elim (changed-closed i round inside) [
              | inl was ↦ inr (sym (ap (is_open rule) was) ∙ shut.0, ap (is_open rule) is ∙ shut.1)
              | inr before ↦ absurd (false≢true (sym before.1 ∙ shut.0))
            ])
      ]

module _
    {rule : Rule} {net : List Driver} {input : List Bool} {first : List Tri} (long : length first ≡ length net)
    (falls : Falls rule net input first) where
  pub pass-long :
      {round : ℕ} {state : List Tri} {noted : List ℕ} → PassSoFar rule net input first round state noted →
      length state ≡ length net
  pass-long {round} so_far = ap (length {A = Tri}) so_far.now ∙ length-states rule net input first long falls round

  pub pass-falls :
      {round : ℕ} {state : List Tri} {noted : List ℕ} → PassSoFar rule net input first round state noted →
      Falls rule net input state
  pass-falls {round} so_far = subst (Falls rule net input) (sym so_far.now) (falls-states rule net input first long falls round)

  -- the rounds so far are no more than the variables
  pub pass-bound :
      {round : ℕ} {state : List Tri} {noted : List ℕ} → PassSoFar rule net input first round state noted →
      round ≤ length net
  pass-bound so_far = omega (arith, so_far.few)

  -- the rounds so far changed no more variables than can't change any more
  pub pass-changes :
      {round : ℕ} {state : List Tri} {noted : List ℕ} → PassSoFar rule net input first round state noted →
      differing_count first state + open_weight rule (λ i. 1) state ≤ open_weight rule (λ i. 1) first
  pass-changes {round} so_far =
      subst (λ (values : List Tri). differing_count first values + open_weight rule (λ i. 1) values ≤ open_weight rule (λ i. 1) first) (sym so_far.now)
      (differing-open rule 0 first (round_states rule net input first round) (length-states rule net input first long falls round ∙ sym long)
      (λ i few. changed-closed rule net input first long falls i round (omega (arith, few, long))))

  pub pass-begin :
      (noted : List ℕ) → length noted ≡ length net → ((i : ℕ) → slice_index noted i ≡ 0) →
      PassSoFar rule net input first 0 first noted
  pass-begin noted noted_long none = record {
    now = refl;
    least = λ k some few. absurd (omega (arith, some, few));
    few = omega (arith, open_weight-ones rule 0 first, long);
    firsts = record {
      long = noted_long ∙ sym long;
      each = λ i inside. subst (λ (n : ℕ). IsFirstRound (round_states rule net input first) i (λ value. value ≡ value_at first i) n) (sym (none i))
          (record { there = refl; least = λ k early e. absurd (omega (arith, early)) });
    };
  }

  -- the round that changes a variable is the first with its new value
  first-changed :
      (i round : ℕ) (state next : List Tri) (changed : List ℕ) → i < length net → state ≡ round_states rule net input first round →
      IsRound rule net input state next changed → value_at next i ≢ value_at state i →
      IsFirstRound (round_states rule net input first) i (λ value. value ≡ value_at next i) (suc round)
  first-changed i round state next changed inside now made differ =
      let state_long : length state ≡ length net = ap (length {A = Tri}) now ∙ length-states rule net input first long falls round in
      let is : value_at next i ≡ next_value rule (value_at state i) (excitation3 net input state i) =
      ap (λ (values : List Tri). value_at values i) made.made ∙ at-next_state rule net input state i state_long inside in
      let state_falls : Falls rule net input state = subst (Falls rule net input) (sym now) (falls-states rule net input first long falls round) in
      let closed : is_open rule (value_at next i) ≡ false =
      ap (is_open rule) is ∙ (closes rule (value_at state i) (excitation3 net input state i) (falls-at rule net input state i inside state_falls) (λ e. differ (is ∙ e))).1 in
      record {
        there = ap (λ (values : List Tri). value_at values i) (ap (next_state rule net input) (sym now) ∙ sym made.made);
        least = λ k early there.
            let stays = closed-later rule net input first long falls i k round inside (omega (arith, early)) (ap (is_open rule) there ∙ closed) in
            differ (sym there ∙ (sym stays ∙ ap (λ (values : List Tri). value_at values i) (sym now)));
      }

  pass-step :
      (round : ℕ) (state next : List Tri) (changed noted after : List ℕ) →
      PassSoFar rule net input first round state noted → IsRound rule net input state next changed → state ≢ next →
      1 ≤ length changed → length after ≡ length noted →
      ((i : ℕ) → i < length net → IsNotedAfter (suc round) state next i (slice_index noted i) (slice_index after i)) →
      PassSoFar rule net input first (suc round) next after
  pass-step round state next changed noted after so_far made differ some after_long each =
      let now : next ≡ round_states rule net input first (suc round) = made.made ∙ ap (next_state rule net input) so_far.now in
      let state_long : length state ≡ length net = pass-long so_far in
      let next_long : length next ≡ length net = ap (length {A = Tri}) now ∙ length-states rule net input first long falls (suc round) in
      record {
        now = now;
        least = λ k once few. elim (cases_lt round k) [
          | inl last ↦ (λ e. differ (
              so_far.now ∙
              (ap (round_states rule net input first) (let same : round ≡ k - 1 = omega (arith, last, few) in same) ∙
              (sym e ∙
              (ap (round_states rule net input first) (let same : k ≡ suc round = omega (arith, last, few) in same) ∙ sym now)))
              ))
          | inr early ↦ so_far.least k once early
        ];
        few = omega (arith, so_far.few, made.balance (λ i. 1), sum_by-ones changed, some);
        firsts = record {
          long = after_long ∙ (so_far.firsts.long ∙ (state_long ∙ sym next_long));
          each = λ i few.
              let inside : i < length net = omega (arith, few, next_long) in
              let here : i < length state = omega (arith, inside, state_long) in
              elim (same-or-differ (value_at next i) (value_at state i)) [
                | inl same ↦ subst (λ (n : ℕ). IsFirstRound (round_states rule net input first) i (λ value. value ≡ value_at next i) n) (sym ((each i inside).same same))
                    (subst (λ (v : Tri). IsFirstRound (round_states rule net input first) i (λ value. value ≡ v) (slice_index noted i)) (sym same) (so_far.firsts.each i here))
                | inr other ↦ subst (λ (n : ℕ). IsFirstRound (round_states rule net input first) i (λ value. value ≡ value_at next i) n) (sym ((each i inside).changed other))
                    (first-changed i round state next changed inside so_far.now made other)
              ];
        };
      }

  -- one round more, as the loop counts: by the number of the next round
  pub pass-on :
      {number : ℕ} {state next state' : List Tri} {changed noted after : List ℕ} → 1 ≤ number →
      PassSoFar rule net input first (number - 1) state noted → IsRound rule net input state next changed → state ≢ next →
      1 ≤ length changed → state' ≡ next → length after ≡ length noted →
      ((i : ℕ) → i < length net → IsNotedAfter number state next i (slice_index noted i) (slice_index after i)) →
      PassSoFar rule net input first (number + 1 - 1) state' after
  pass-on {number} {state} {next} {state'} {changed} {noted} {after} one so_far made differ some same after_long each =
      let later : suc (number - 1) ≡ number + 1 - 1 = omega (arith, one) in
      let now : number ≡ suc (number - 1) = omega (arith, one) in
      subst (λ (n : ℕ). PassSoFar rule net input first n state' after) later
      (subst (λ (s : List Tri). PassSoFar rule net input first (suc (number - 1)) s after) (sym same)
      (pass-step (number - 1) state next changed noted after so_far made differ some after_long (λ i inside.
      subst (λ (n : ℕ). IsNotedAfter n state next i (slice_index noted i) (slice_index after i)) now (each i inside))))

  -- the round that changes nothing is the last
  pub pass-done :
      {number : ℕ} {state next : List Tri} {changed noted : List ℕ} → 1 ≤ number →
      PassSoFar rule net input first (number - 1) state noted → IsRound rule net input state next changed → state ≡ next →
      AreRounds (round_states rule net input first) number × (state ≡ round_states rule net input first number) ×
      (number ≤ length net + 1)
  pass-done {number} {state} {next} one so_far made same =
      let round = number - 1 in
      let last : number ≡ suc round = omega (arith, one) in
      let now : next ≡ round_states rule net input first number =
      made.made ∙ (ap (next_state rule net input) so_far.now ∙ ap (round_states rule net input first) (sym last)) in (
        record {
          some = one;
          settled = sym now ∙ (sym same ∙ so_far.now);
          least = λ k some few. so_far.least k some (omega (arith, few));
        },
        same ∙ now,
        omega (arith, so_far.few, one),
      )
