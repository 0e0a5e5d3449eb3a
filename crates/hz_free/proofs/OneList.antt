-- A network has one list of feedback cycles, and each variable one core.
use Rattle.std.proofs.Common.{◌≡◌, ℕ, zero, suc, ◌<◌, ◌≤◌, ◌⊎◌, true, List, [], ◌∷◌, length, get_or, All, refl, sym, ap, subst, arith, inl, inr}
use Rattle.std.specs.Prelude.{Contains}
use Rattle.std.proofs.lemmas.List.Elements.{All-head, All-tail}
use Rattle.hz_net.specs.Network.{Driver}
use Rattle.hz_lists.specs.Listed.{is_listed}
use Rattle.hz_free.specs.Feedback.{IsFeedbackCycle, AreFeedbackCycles, IsWayBack, IsCore}
use Rattle.hz_free.proofs.FeedbackCycles.{choice-one, cycle-closed, same-cycle}

-- cycles with ascending first variables, none of which is below a number
abbrev pub Rises : ℕ → List (List ℕ) → Type 0
Rises low [] = Unit {0}
Rises low (cycle ∷ cycles) = (low ≤ get_or cycle 0 0) × Rises (suc (get_or cycle 0 0)) cycles

rises-from : (low : ℕ) (cycles : List (List ℕ)) → (0 < length cycles → low ≤ get_or (get_or cycles 0 []) 0 0) → ((number : ℕ) → suc number < length cycles → get_or (get_or cycles number []) 0 0 < get_or (get_or cycles (suc number) []) 0 0) → Rises low cycles
rises-from low [] least ordered = tt
rises-from low (cycle ∷ cycles) least ordered = (
  least (omega arith),
  rises-from (suc (get_or cycle 0 0)) cycles (λ some. let less = ordered 0 (omega arith) in omega arith) (λ number few. ordered (suc number) (omega arith)),
)

contains-later : (cycle : List ℕ) (cycles : List (List ℕ)) (wanted : List ℕ) → Contains (cycle ∷ cycles) wanted → (wanted ≡ cycle) ⊎ Contains cycles wanted
contains-later cycle cycles wanted (zero, few, at) = inl (sym at)
contains-later cycle cycles wanted (suc k, few, at) = inr (k, omega arith, at)

rises-least : (low : ℕ) (cycles : List (List ℕ)) (wanted : List ℕ) → Rises low cycles → Contains cycles wanted → low ≤ get_or wanted 0 0
rises-least low [] wanted rises has = let few = has.1 in absurd (omega arith)
rises-least low (cycle ∷ cycles) wanted rises has =
    elim (contains-later cycle cycles wanted has) [
      | inl here ↦ subst (λ (found : List ℕ). low ≤ get_or found 0 0) (sym here) rises.0
      | inr later ↦
          let least = rises-least (suc (get_or cycle 0 0)) cycles wanted rises.1 later in
          let low_first = rises.0 in
          omega arith
    ]

-- all cycles whose first variable is not below a number are listed
abbrev pub HasAll : List Driver → ℕ → List (List ℕ) → Type 0
HasAll net low cycles = (cycle : List ℕ) → IsFeedbackCycle net cycle → low ≤ get_or cycle 0 0 → Contains cycles cycle

module _ (net : List Driver) where
  has-later : (cycle : List ℕ) (cycles : List (List ℕ)) (low : ℕ) → low ≤ get_or cycle 0 0 → HasAll net low (cycle ∷ cycles) → HasAll net (suc (get_or cycle 0 0)) cycles
  has-later cycle cycles low low_first all wanted is least =
      elim (contains-later cycle cycles wanted (all wanted is (omega arith))) [
        | inl here ↦
            let same : get_or wanted 0 0 ≡ get_or cycle 0 0 = ap (λ (found : List ℕ). get_or found 0 0) here in
            absurd (omega arith)
        | inr later ↦ later
      ]

  same-lists : (low : ℕ) (left right : List (List ℕ)) → Rises low left → Rises low right → All (IsFeedbackCycle net) left → All (IsFeedbackCycle net) right → HasAll net low left → HasAll net low right → left ≡ right
  same-lists low [] [] left_rises right_rises left_each right_each left_all right_all = refl
  same-lists low [] (cycle ∷ right) left_rises right_rises left_each right_each left_all right_all =
      let has = left_all cycle (All-head (IsFeedbackCycle net) cycle right right_each) right_rises.0 in
      let few = has.1 in
      absurd (omega arith)
  same-lists low (cycle ∷ left) [] left_rises right_rises left_each right_each left_all right_all =
      let has = right_all cycle (All-head (IsFeedbackCycle net) cycle left left_each) left_rises.0 in
      let few = has.1 in
      absurd (omega arith)
  same-lists low (cycle ∷ left) (other ∷ right) left_rises right_rises left_each right_each left_all right_all =
      let is_cycle = All-head (IsFeedbackCycle net) cycle left left_each in
      let is_other = All-head (IsFeedbackCycle net) other right right_each in
      let same : cycle ≡ other =
      elim (contains-later other right cycle (right_all cycle is_cycle left_rises.0)) [
        | inl here ↦ here
        | inr later ↦
            let more = rises-least (suc (get_or other 0 0)) right cycle right_rises.1 later in
            elim (contains-later cycle left other (left_all other is_other right_rises.0)) [
              | inl here ↦ sym here
              | inr later' ↦ let less = rises-least (suc (get_or cycle 0 0)) left other left_rises.1 later' in absurd (omega arith)
            ]
      ] in
      let rest : left ≡ right =
      same-lists (suc (get_or cycle 0 0)) left right left_rises.1
      (subst (λ (found : List ℕ). Rises (suc (get_or found 0 0)) right) (sym same) right_rises.1)
      (All-tail (IsFeedbackCycle net) cycle left left_each) (All-tail (IsFeedbackCycle net) other right right_each)
      (has-later cycle left low left_rises.0 left_all)
      (subst (λ (found : List ℕ). HasAll net (suc (get_or found 0 0)) right) (sym same) (has-later other right low right_rises.0 right_all)) in
      subst (λ (found : List ℕ). cycle ∷ left ≡ found ∷ right) same (ap (λ (list : List (List ℕ)). cycle ∷ list) rest)

pub one-list : (net : List Driver) (left right : List (List ℕ)) → AreFeedbackCycles net left → AreFeedbackCycles net right → left ≡ right
one-list net left right are_left are_right =
    same-lists net 0 left right (rises-from 0 left (λ some. omega arith) are_left.ordered) (rises-from 0 right (λ some. omega arith) are_right.ordered)
    are_left.each are_right.each (λ cycle is least. are_left.every cycle is) (λ cycle is least. are_right.every cycle is)

-- the way back from a variable of a cycle ends in the cycle
way-stays : (net : List Driver) (cycle : List ℕ) (start : ℕ) (way : List ℕ) (last : ℕ) → IsFeedbackCycle net cycle → is_listed cycle start ≡ true → IsWayBack net start way last → is_listed cycle last ≡ true
way-stays net cycle start [] last is there back = subst (λ (m : ℕ). is_listed cycle m ≡ true) back there
way-stays net cycle start (choice ∷ way) last is there back =
    way-stays net cycle choice way last is (cycle-closed net cycle start choice is there back.0) back.1

one-end : (net : List Driver) (i : ℕ) (left right : List ℕ) (left_way right_way : List ℕ) (left_last right_last : ℕ) → IsFeedbackCycle net left → IsFeedbackCycle net right → IsWayBack net i left_way left_last → IsWayBack net i right_way right_last → is_listed left left_last ≡ true → is_listed right right_last ≡ true → left ≡ right
one-end net i left right [] right_way left_last right_last is_left is_right left_back right_back in_left in_right =
    let begins : is_listed left i ≡ true = subst (λ (m : ℕ). is_listed left m ≡ true) (sym left_back) in_left in
    same-cycle net left right right_last is_left is_right (way-stays net left i right_way right_last is_left begins right_back) in_right
one-end net i left right (choice ∷ left_way) [] left_last right_last is_left is_right left_back right_back in_left in_right =
    let begins : is_listed right i ≡ true = subst (λ (m : ℕ). is_listed right m ≡ true) (sym right_back) in_right in
    same-cycle net left right left_last is_left is_right in_left (way-stays net right i (choice ∷ left_way) left_last is_right begins left_back)
one-end net i left right (choice ∷ left_way) (other ∷ right_way) left_last right_last is_left is_right left_back right_back in_left in_right =
    let same : other ≡ choice = choice-one net i other choice right_back.0 left_back.0 in
    one-end net choice left right left_way right_way left_last right_last is_left is_right left_back.1
    (subst (λ (m : ℕ). IsWayBack net m right_way right_last) same right_back.1) in_left in_right

pub one-core : (net : List Driver) (i : ℕ) (left right : List ℕ) → IsCore net i left → IsCore net i right → left ≡ right
one-core net i left right is_left is_right =
    one-end net i left right is_left.way is_right.way is_left.last is_right.last is_left.is_cycle is_right.is_cycle
    is_left.leads is_right.leads is_left.ends is_right.ends
