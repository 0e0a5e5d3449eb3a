-- The transitions of a state, burst after burst.
use Rattle.std.proofs.Common.{◌≡◌, ◌∙◌, refl, sym, ap, ℕ, ◌+◌, Bool, true, false, ◌&&◌, cond, List, [], ◌∷◌, ◌++◌, map, filter, count_by, arith}
use Rattle.hz_explore.proofs.Words.{list_all, All-nil, All-cons, All-append, Netlist, has_state, Assumption, Totals, applies, nodes_of, Outcome, Settled, Unsettled, Transition}
use Rattle.hz_explore.proofs.Words.{IsRightTransition, AreTransitions, transition_end, ends_of, Clean, NotSettled, transition_count, count_if, count_of_outcome, is_hazard, is_not_settled}
use Rattle.hz_explore.proofs.Words.{counted}
use Rattle.std.proofs.lemmas.List.{map-append}
use Rattle.std.proofs.lemmas.List.Elements.{filter-append, filter_map-append}
use Rattle.std.proofs.lemmas.List.Folds.{list_all-append}
use Rattle.std.proofs.lemmas.List.Sums.{sum_by-append}
use Rattle.hz_explore.specs.Counts.{Count, Hazard, is_clean, totals_of}

module _ (netlist : Netlist) (cap : ℕ) (assumptions : List Assumption) (state : List Bool) where
  -- no burst
  pub transitions-none : AreTransitions netlist cap assumptions [] state []
  transitions-none = record {
    each_once = refl;
    start = All-nil (λ (one : Transition). one.start ≡ state);
    right = All-nil (IsRightTransition netlist cap assumptions);
  }

  -- some bursts, and then others
  pub transitions-append : (bursts later : List (List (ℕ × Bool))) (transitions more : List Transition) → AreTransitions netlist cap assumptions bursts state transitions → AreTransitions netlist cap assumptions later state more → AreTransitions netlist cap assumptions (bursts ++ later) state (transitions ++ more)
  transitions-append bursts later transitions more are others = record {
    each_once = map-append (λ (one : Transition). one.burst) transitions more
        ∙ (ap (λ (list : List (List (ℕ × Bool))). list ++ map (λ (one : Transition). one.burst) more) are.each_once
        ∙ (ap (λ (list : List (List (ℕ × Bool))). filter (applies state) bursts ++ list) others.each_once ∙ sym (filter-append (applies state) bursts later)));
    start = All-append (λ (one : Transition). one.start ≡ state) transitions more are.start others.start;
    right = All-append (IsRightTransition netlist cap assumptions) transitions more are.right others.right;
  }

  -- a burst that applies
  pub transition-one : (one : Transition) → one.start ≡ state → applies state one.burst ≡ true → IsRightTransition netlist cap assumptions one → AreTransitions netlist cap assumptions (one.burst ∷ []) state (one ∷ [])
  transition-one one start can right = record {
    each_once = rw can refl;
    start = All-cons (λ (one : Transition). one.start ≡ state) one [] start (All-nil (λ (one : Transition). one.start ≡ state));
    right = All-cons (IsRightTransition netlist cap assumptions) one [] right (All-nil (IsRightTransition netlist cap assumptions));
  }

  -- a burst that does not
  pub transition-not : (burst : List (ℕ × Bool)) → applies state burst ≡ false → AreTransitions netlist cap assumptions (burst ∷ []) state []
  transition-not burst not_so = record {
    each_once = rw not_so refl;
    start = All-nil (λ (one : Transition). one.start ≡ state);
    right = All-nil (IsRightTransition netlist cap assumptions);
  }

-- where they end
pub ends-append : (netlist : Netlist) (transitions more : List Transition) → ends_of netlist (transitions ++ more) ≡ ends_of netlist transitions ++ ends_of netlist more
ends-append netlist transitions more = filter_map-append (λ (one : Transition). transition_end netlist one.outcome) transitions more

-- counts of one transition more
count-more : (test : Transition → Bool) (transitions : List Transition) (one : Transition) → count_by test (transitions ++ one ∷ []) ≡ count_by test transitions + cond (test one) 1 0
count-more test transitions one = by (test one) refl
  where
    by : (here : Bool) → test one ≡ here → count_by test (transitions ++ one ∷ []) ≡ count_by test transitions + cond (test one) 1 0
    by true e = rw e (sum_by-append (λ (t : Transition). cond (test t) 1 0) transitions (one ∷ []) ∙ rw e refl)
    by false e = rw e (sum_by-append (λ (t : Transition). cond (test t) 1 0) transitions (one ∷ []) ∙ rw e refl)

-- whether a transition ends in one of these states; one that does not settle leaves that open
abbrev pub is_listed : Netlist → List (List Bool) → Outcome → Bool
is_listed netlist states (Settled next) = has_state states (nodes_of netlist next)
is_listed netlist states (Unsettled var) = true

abbrev by_counts : Totals → Count → Bool → Totals
by_counts totals count whole =
    record {
      clean = totals.clean + cond (is_clean count) 1 0;
      hazards = totals.hazards + cond (is_hazard count) 1 0;
      unsettled = totals.unsettled + cond (is_not_settled count) 1 0;
      is_whole = whole;
    }

abbrev the-totals : ℕ → ℕ → ℕ → Bool → Totals
the-totals clean hazards unsettled whole = record { clean = clean; hazards = hazards; unsettled = unsettled; is_whole = whole }

and-true : (a : Bool) → (a && true) ≡ a
and-true true = refl
and-true false = refl

plus-none : (n : ℕ) → n + 0 ≡ n
plus-none n = omega arith

same-totals : {clean clean2 hazards hazards2 unsettled unsettled2 : ℕ} {whole whole2 : Bool} → clean ≡ clean2 → hazards ≡ hazards2 → unsettled ≡ unsettled2 → whole ≡ whole2 →
    the-totals clean hazards unsettled whole ≡ the-totals clean2 hazards2 unsettled2 whole2
same-totals a b c d = rw (a, b, c, d) refl

no-classes-unsettled : (clean : Bool) → count_if clean ≡ NotSettled → ⊥
no-classes-unsettled true e = cc
no-classes-unsettled false e = cc

-- totals with one transition more
pub totals-more : (netlist : Netlist) (states : List (List Bool)) (transitions : List Transition) (one : Transition) →
    totals_of netlist states (transitions ++ one ∷ []) ≡ counted (totals_of netlist states transitions) (transition_count netlist one) (is_listed netlist states one.outcome)
totals-more netlist states transitions one =
    let clean = count-more (λ (t : Transition). is_clean (transition_count netlist t)) transitions one in
    let hazards = count-more (λ (t : Transition). is_hazard (transition_count netlist t)) transitions one in
    let open_ = count-more (λ (t : Transition). is_not_settled (transition_count netlist t)) transitions one in
    let whole = ap (list_all (has_state states)) (ends-append netlist transitions (one ∷ [])) ∙ list_all-append (has_state states) (ends_of netlist transitions) (ends_of netlist (one ∷ [])) in
    rw (clean, hazards, open_, whole) (by one.outcome refl (transition_count netlist one) refl)
  where
    by : (outcome : Outcome) → one.outcome ≡ outcome → (count : Count) → count_of_outcome netlist one.found one.outcome ≡ count →
        by_counts (totals_of netlist states transitions) (transition_count netlist one) (list_all (has_state states) (ends_of netlist transitions) && list_all (has_state states) (ends_of netlist (one ∷ [])))
        ≡ counted (totals_of netlist states transitions) (transition_count netlist one) (is_listed netlist states one.outcome)
    by (Settled next) o Clean c = rw (c, o) (same-totals refl (plus-none _) (plus-none _) (ap (λ (here : Bool). list_all (has_state states) (ends_of netlist transitions) && here) (and-true _)))
    by (Settled next) o Hazard c = rw (c, o) (same-totals (plus-none _) refl (plus-none _) (ap (λ (here : Bool). list_all (has_state states) (ends_of netlist transitions) && here) (and-true _)))
    by (Settled next) o NotSettled c = absurd (no-classes-unsettled _ (ap (count_of_outcome netlist one.found) (sym o) ∙ c))
    by (Unsettled var) o Clean c = absurd cc
    by (Unsettled var) o Hazard c = absurd cc
    by (Unsettled var) o NotSettled c = rw (c, o) (same-totals (plus-none _) (plus-none _) refl (and-true _))
