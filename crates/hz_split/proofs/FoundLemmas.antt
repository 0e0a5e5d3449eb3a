-- One run more.
use Rattle.std.proofs.Common.{◌≡◌, ◌∙◌, ℕ, zero, suc, ◌+◌, ◌-◌, ◌*◌, ◌<◌, ◌≤◌, Bool, true, false, List, [], ◌∷◌, ◌++◌, length, take, get_or, inl, inr, Option, Some, None, cond, refl, sym, ap, subst, arith}
use Rattle.hz_split.proofs.Words.{range_with_len, Driver, unstable_variables, state_after, end_of, is_other, is_settled, turns_from, flips_alone, FoundOf, with_attempts}
use Rattle.hz_split.proofs.Words.{cases_Bool, Pick, Least, Greatest}
use Rattle.hz_split.specs.Attempts.{picked, turn_then}
use Rattle.hz_split.specs.FoundRuns.{with_run, found_with, with_attempt}

-- runs whose first one ends in a state
abbrev pub found_as : List Bool → List (List (List ℕ)) → FoundOf
found_as ending runs = record { variables = length ending; runs = runs; ending = ending }

module _ (now : FoundOf) (first run : List (List ℕ)) (ending state : List Bool) where
  pub second-added : now ≡ found_as ending (first ∷ []) → is_other ending state ≡ true → found_as ending (first ∷ run ∷ []) ≡ with_run now run state
  second-added is other =
      subst (λ (f : FoundOf). found_as ending (first ∷ run ∷ []) ≡ with_run f run state) (sym is)
      (ap (λ (b : Bool). cond b (found_as ending (first ∷ run ∷ [])) (found_as ending (first ∷ []))) (sym other))

  pub same-kept : now ≡ found_as ending (first ∷ []) → is_other ending state ≡ false → now ≡ with_run now run state
  same-kept is same =
      subst (λ (f : FoundOf). f ≡ with_run f run state) (sym is)
      (ap (λ (b : Bool). cond b (found_as ending (first ∷ run ∷ [])) (found_as ending (first ∷ []))) (sym same))

  pub two-kept : (second : List (List ℕ)) → now ≡ found_as ending (first ∷ second ∷ []) → now ≡ with_run now run state
  two-kept second is = subst (λ (f : FoundOf). f ≡ with_run f run state) (sym is) refl

-- an attempt has no more turns than it may
few-then : (found : Option ℕ) (after : ℕ → List ℕ) (most : ℕ) → ((var : ℕ) → length (after var) ≤ most) → length (turn_then found after) ≤ suc most
few-then None after most few = omega arith
few-then (Some var) after most few = omega (arith, few var)

pub few-turns : (net : List Driver) (input : List Bool) (pick : Pick) (most : ℕ) (state : List Bool) → length (turns_from net input pick most state) ≤ most
few-turns net input pick zero state = omega arith
few-turns net input pick (suc most) state =
    few-then (picked pick (unstable_variables net input state)) (λ var. turns_from net input pick most (state_after (var ∷ []) state)) most
    (λ var. few-turns net input pick most (state_after (var ∷ []) state))

-- the room stays that for the network
run-variables : (found : FoundOf) (runs : List (List (List ℕ))) (run : List (List ℕ)) (state : List Bool) → (found_with found runs run state).variables ≡ found.variables
run-variables found [] run state = refl
run-variables found (first ∷ []) run state = chosen (is_other found.ending state)
  where
    chosen : (b : Bool) → (cond b (let f : FoundOf = record found { runs = first ∷ run ∷ [] } in f) found).variables ≡ found.variables
    chosen true = refl
    chosen false = refl
run-variables found (first ∷ second ∷ runs) run state = refl

pub attempt-variables : (net : List Driver) (input : List Bool) (pick : Pick) (front : List (List ℕ)) (here : List Bool) (found : FoundOf) → (with_attempt net input pick front here found).variables ≡ found.variables
attempt-variables net input pick front here found =
    let turns = flips_alone (turns_from net input pick (2 * length net) here) in
    elim (cases_Bool (is_settled net input (end_of here turns))) [
      | inl settled ↦ rw settled (run-variables found found.runs (front ++ turns) (end_of here turns))
      | inr not_settled ↦ rw not_settled refl
    ]

-- two runs stay
two-stay : (found : FoundOf) (runs : List (List (List ℕ))) (run : List (List ℕ)) (state : List Bool) → length runs ≡ 2 → found_with found runs run state ≡ found
two-stay found [] run state two = absurd (omega (arith, two))
two-stay found (first ∷ []) run state two = absurd (omega (arith, two))
two-stay found (first ∷ second ∷ runs) run state two = refl

pub attempt-two : (net : List Driver) (input : List Bool) (pick : Pick) (front : List (List ℕ)) (here : List Bool) (found : FoundOf) → length found.runs ≡ 2 → with_attempt net input pick front here found ≡ found
attempt-two net input pick front here found two =
    let turns = flips_alone (turns_from net input pick (2 * length net) here) in
    elim (cases_Bool (is_settled net input (end_of here turns))) [
      | inl settled ↦ rw settled (two-stay found found.runs (front ++ turns) (end_of here turns) two)
      | inr not_settled ↦ rw not_settled refl
    ]

pub attempts-two : (net : List Driver) (input : List Bool) (settle cycle : List (List ℕ)) (numbers : List ℕ) (here : List Bool) (found : FoundOf) → length found.runs ≡ 2 → with_attempts net input settle cycle numbers here found ≡ found
attempts-two net input settle cycle [] here found two = refl
attempts-two net input settle cycle (number ∷ numbers) here found two =
    let front = settle ++ take number cycle in
    let both : with_attempt net input Greatest front here (with_attempt net input Least front here found) ≡ found =
    ap (with_attempt net input Greatest front here) (attempt-two net input Least front here found two) ∙ attempt-two net input Greatest front here found two in
    ap (with_attempts net input settle cycle numbers (state_after (get_or cycle number []) here)) both
    ∙ attempts-two net input settle cycle numbers (state_after (get_or cycle number []) here) found two

-- two attempts from a state, and then the others
pub attempts-more : (net : List Driver) (input : List Bool) (settle cycle : List (List ℕ)) (most front : ℕ) (here next : List Bool) (found one two whole : FoundOf) → front < most
    → one ≡ with_attempt net input Least (settle ++ take front cycle) here found → two ≡ with_attempt net input Greatest (settle ++ take front cycle) here one → next ≡ state_after (get_or cycle front []) here
    → with_attempts net input settle cycle (range_with_len front (most - front)) here found ≡ whole → with_attempts net input settle cycle (range_with_len (front + 1) (most - (front + 1))) next two ≡ whole
attempts-more net input settle cycle most front here next found one two whole below is_one is_two is_next is_whole =
    let rest = range_with_len (front + 1) (most - (front + 1)) in
    let left : most - front ≡ suc (most - (front + 1)) = omega (arith, below) in
    let both : two ≡ with_attempt net input Greatest (settle ++ take front cycle) here (with_attempt net input Least (settle ++ take front cycle) here found) =
    is_two ∙ ap (with_attempt net input Greatest (settle ++ take front cycle) here) is_one in
    ap (λ (s : List Bool). with_attempts net input settle cycle rest s two) is_next
    ∙ (ap (with_attempts net input settle cycle rest (state_after (get_or cycle front []) here)) both
    ∙ (sym (ap (λ (n : ℕ). with_attempts net input settle cycle (range_with_len front n) here found) left) ∙ is_whole))
