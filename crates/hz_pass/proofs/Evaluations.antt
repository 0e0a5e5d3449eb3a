-- One variable more in a round: what is known of the round stays known.
use Rattle.std.proofs.Common.{◌≡◌, ◌≢◌, ℕ, ◌+◌, ◌<◌, Bool, true, false, List, [], ◌∷◌, ◌++◌, length, set, refl, sym, ap, ◌∙◌, subst, arith, inl, inr}
use Rattle.std.specs.Prelude.{Contains}
use Rattle.std.proofs.lemmas.Bool.{cases_eq}
use Rattle.std.proofs.lemmas.List.{get_or-set_same, get_or-set_other, length-set}
use Rattle.std.proofs.lemmas.List.Elements.{Contains-push, Contains-push_cases, Contains-append_left}
use Rattle.std.proofs.lemmas.List.Sums.{sum_by_push}
use Rattle.hz_core.specs.declared.tri.Tri.{Tri}
use Rattle.hz_core.specs.declared.tri.Tri.TheVariants.{Zero}
use Rattle.hz_net.specs.Network.{Driver, value_at, excitation3}
use Rattle.hz_pass.specs.declared.round.Rule.{Rule}
use Rattle.hz_pass.specs.Frontier.{next_value, Falls, IsMade, ListsChanges, is_open, open_weight, IsRoundSoFar}
use Rattle.hz_pass.proofs.Values.{same-or-differ, falls-at, closes, open_weight-set, open_weight-ones, sum_by-ones}

-- no variable is evaluated
pub round-begin :
    (rule : Rule) (net : List Driver) (input : List Bool) (state : List Tri) →
    IsRoundSoFar rule net input state state []
round-begin rule net input state = record {
  long = refl;
  either = λ i. inl refl;
  lists = record {
    each = λ i there. absurd (omega (arith, there.1));
    every = λ i differ. absurd (differ refl);
  };
  balance = λ weight. omega arith;
}

-- a final value is the one that the round makes
pub made-final :
    {rule : Rule} {net : List Driver} {input : List Bool} {state next : List Tri} {changed : List ℕ} {i : ℕ} →
    length state ≡ length net → i < length net → Falls rule net input state → IsRoundSoFar rule net input state next changed →
    is_open rule (value_at next i) ≡ false → IsMade rule net input state next i
made-final {rule} {net} {input} {state} {next} {changed} {i} long inside falls so_far final =
    let excited = excitation3 net input state i in
    elim (so_far.either i) [
      | inl was ↦ elim (same-or-differ (next_value rule (value_at state i) excited) (value_at state i)) [
        | inl stays ↦ was ∙ sym stays
        | inr changes ↦ (
            let shut = closes rule (value_at state i) excited (falls-at rule net input state i inside falls) changes in
            let both : true ≡ false = sym shut.0 ∙ (sym (ap (is_open rule) was) ∙ final) in
            absurd (no-both both)
            )
      ]
      | inr made ↦ made
    ]
  where
    no-both : true ≡ false → ⊥
    no-both e = cc

-- a variable that changes is listed
lists-more :
    (state next : List Tri) (changed : List ℕ) (i : ℕ) (value : Tri) → ListsChanges state next changed → i < length next →
    value_at next i ≡ value_at state i → value ≢ value_at state i → ListsChanges state (set next i value) (changed ++ i ∷ [])
lists-more state next changed i value lists inside was differ = record {
  each = λ k there. elim (Contains-push_cases changed i k there) [
    | inl old ↦ (
        let other : k ≢ i = λ e. lists.each k old (subst (λ (n : ℕ). value_at next n ≡ value_at state n) (sym e) was) in
        λ same. lists.each k old (sym (get_or-set_other next i k value Zero other) ∙ same)
        )
    | inr new ↦ subst (λ (n : ℕ). value_at (set next i value) n ≢ value_at state n) new (λ same. differ (sym (get_or-set_same next i value Zero inside) ∙ same))
  ];
  every = λ k changes. elim (cases_eq k i) [
    | inl same ↦ subst (Contains (changed ++ i ∷ [])) (sym same) (Contains-push changed i)
    | inr other ↦ Contains-append_left changed (i ∷ []) k (lists.every k (λ e. changes (get_or-set_other next i k value Zero other ∙ e)))
  ];
}

module _
    {rule : Rule} {net : List Driver} {input : List Bool} {state next : List Tri} {changed : List ℕ} {i : ℕ} {value : Tri}
    (long : length state ≡ length net) (inside : i < length net) (falls : Falls rule net input state)
    (so_far : IsRoundSoFar rule net input state next changed)
    (is : value ≡ next_value rule (value_at state i) (excitation3 net input state i)) (differ : value_at next i ≢ value) where
  -- it was not evaluated before
  was : value_at next i ≡ value_at state i
  was = elim (so_far.either i) [ inl e ↦ e | inr made ↦ absurd (differ (made ∙ sym is)) ]

  changes : next_value rule (value_at state i) (excitation3 net input state i) ≢ value_at state i
  changes = λ e. differ (was ∙ sym (is ∙ e))

  within : i < length next
  within = omega (arith, inside, long, so_far.long)

  lost : (weight : ℕ → ℕ) → weight (0 + i) + open_weight rule weight (set next i value) ≡ open_weight rule weight next
  lost weight =
      let excited = excitation3 net input state i in
      let shut = closes rule (value_at state i) excited (falls-at rule net input state i inside falls) changes in
      open_weight-set rule weight 0 next i value within (ap (is_open rule) was ∙ shut.0) (ap (is_open rule) is ∙ shut.1)

  -- there is room for it among the variables that changed
  pub room-for-change : length changed < length net
  room-for-change =
      omega (
        arith,
        lost (λ i. 1),
        so_far.balance (λ i. 1),
        sum_by-ones changed,
        open_weight-ones rule 0 state,
        long,
      )

  pub round-more : IsRoundSoFar rule net input state (set next i value) (changed ++ i ∷ [])
  round-more = record {
    long = length-set next i value ∙ so_far.long;
    either = λ k. elim (cases_eq k i) [
      | inl same ↦ inr (subst (IsMade rule net input state (set next i value)) (sym same) (get_or-set_same next i value Zero within ∙ is))
      | inr other ↦ elim (so_far.either k) [
        | inl e ↦ inl (get_or-set_other next i k value Zero other ∙ e)
        | inr made ↦ inr (get_or-set_other next i k value Zero other ∙ made)
      ]
    ];
    lists = lists-more state next changed i value so_far.lists within was (λ e. changes (sym is ∙ e));
    balance = λ weight. omega (
      arith,
      sum_by_push weight changed i,
      lost weight,
      so_far.balance weight,
      ap weight (let same : 0 + i ≡ i = omega arith in same),
    );
  }

  pub made-here : IsMade rule net input state (set next i value) i
  made-here = get_or-set_same next i value Zero within ∙ is

  -- what was made stays made
  pub made-still : (k : ℕ) → IsMade rule net input state next k → IsMade rule net input state (set next i value) k
  made-still k made = elim (cases_eq k i) [
    | inl same ↦ subst (IsMade rule net input state (set next i value)) (sym same) made-here
    | inr other ↦ get_or-set_other next i k value Zero other ∙ made
  ]
