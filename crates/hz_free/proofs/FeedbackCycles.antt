-- Feedback cycles by their definition: a variable has one choice, cycles are closed under choice, and two that share a variable
-- are the same.
use Rattle.std.proofs.Common.{◌≡◌, ℕ, ◌<◌, ◌≤◌, true, false, List, [], ◌∷◌, ◌++◌, refl, sym, ap, ◌∙◌, subst, arith, inl, inr, eqb}
use Rattle.std.proofs.lemmas.Bool.{cases_eq, cases_lt, or_cases, or_parts, or_right, both_ways, eqb-true}
use Rattle.hz_net.specs.Network.{Driver}
use Rattle.hz_lists.specs.Listed.{is_listed, IsRepeatFree}
use Rattle.hz_free.specs.Feedback.{IsChoice, ComesAround, IsFeedbackCycle}
use Rattle.hz_lists.proofs.ListedLemmas.{listed-head, listed-one, listed-append, listed-left, All-listed}

-- a variable chooses one variable
pub choice-one : (net : List Driver) (i j k : ℕ) → IsChoice net i j → IsChoice net i k → j ≡ k
choice-one net i j k left right =
    elim (cases_eq j k) [
      | inl same ↦ same
      | inr ne ↦
          elim (cases_lt j k) [
            | inl less ↦ absurd (left.feeds (right.first j less left.reads))
            | inr more ↦ absurd (right.feeds (left.first k (omega arith) right.reads))
          ]
    ]

-- what the variables of a cycle choose is in it
pub chosen-in : (net : List Driver) (first last : ℕ) (rest : List ℕ) (i j : ℕ) → ComesAround net first last rest → is_listed (rest ++ first ∷ []) i ≡ true → IsChoice net i j → is_listed (last ∷ rest) j ≡ true
chosen-in net first last [] i j around there choice =
    let here : i ≡ first = listed-one i first there in
    let same : last ≡ j = choice-one net i last j (subst (λ (m : ℕ). IsChoice net m last) (sym here) around) choice in
    subst (λ (m : ℕ). is_listed (last ∷ []) m ≡ true) same (listed-head last [])
chosen-in net first last (w ∷ rest) i j around there choice =
    elim (or_cases (eqb i w) (is_listed (rest ++ first ∷ []) i) there) [
      | inl here ↦
          let same : last ≡ j = choice-one net i last j (subst (λ (m : ℕ). IsChoice net m last) (sym (eqb-true i w here)) around.0) choice in
          subst (λ (m : ℕ). is_listed (last ∷ w ∷ rest) m ≡ true) same (listed-head last (w ∷ rest))
      | inr later ↦ or_right (eqb j last) _ (chosen-in net first w rest i j around.1 later choice)
    ]

-- the first variable of a cycle may stand last
turned : (first : ℕ) (rest : List ℕ) (i : ℕ) → is_listed (first ∷ rest) i ≡ true → is_listed (rest ++ first ∷ []) i ≡ true
turned first rest i there =
    elim (or_cases (eqb i first) (is_listed rest i) there) [
      | inl here ↦ listed-append rest (first ∷ []) i ∙ or_right _ _ (subst (λ (m : ℕ). is_listed (m ∷ []) i ≡ true) (eqb-true i first here) (listed-head i []))
      | inr later ↦ listed-left rest (first ∷ []) i later
    ]

pub cycle-closed : (net : List Driver) (cycle : List ℕ) (i j : ℕ) → IsFeedbackCycle net cycle → is_listed cycle i ≡ true → IsChoice net i j → is_listed cycle j ≡ true
cycle-closed net [] i j is there choice = absurd is
cycle-closed net (first ∷ rest) i j is there choice = chosen-in net first first rest i j is.0 (turned first rest i there) choice

-- two variables of a cycle choose different variables
choosers-apart : (net : List Driver) (first last : ℕ) (rest : List ℕ) (i j k : ℕ) → ComesAround net first last rest → IsRepeatFree (last ∷ rest) → is_listed (rest ++ first ∷ []) i ≡ true → is_listed (rest ++ first ∷ []) j ≡ true → IsChoice net i k → IsChoice net j k → i ≡ j
choosers-apart net first last [] i j k around once left right of_i of_j = listed-one i first left ∙ sym (listed-one j first right)
choosers-apart net first last (w ∷ rest) i j k around once left right of_i of_j =
    elim (or_cases (eqb i w) (is_listed (rest ++ first ∷ []) i) left) [
      | inl i_here ↦
          elim (or_cases (eqb j w) (is_listed (rest ++ first ∷ []) j) right) [
            | inl j_here ↦ eqb-true i w i_here ∙ sym (eqb-true j w j_here)
            | inr j_later ↦ absurd (not-both i j (eqb-true i w i_here) of_i j_later of_j)
          ]
      | inr i_later ↦
          elim (or_cases (eqb j w) (is_listed (rest ++ first ∷ []) j) right) [
            | inl j_here ↦ absurd (not-both j i (eqb-true j w j_here) of_j i_later of_i)
            | inr j_later ↦ choosers-apart net first w rest i j k around.1 once.1 i_later j_later of_i of_j
          ]
    ]
  where
    not-both : (a b : ℕ) → a ≡ w → IsChoice net a k → is_listed (rest ++ first ∷ []) b ≡ true → IsChoice net b k → ⊥
    not-both a b here of_a later of_b =
        let same : last ≡ k = choice-one net a last k (subst (λ (m : ℕ). IsChoice net m last) (sym here) around.0) of_a in
        let there : is_listed (w ∷ rest) k ≡ true = chosen-in net first w rest b k around.1 later of_b in
        both_ways (is_listed (w ∷ rest) last) once.0 (subst (λ (m : ℕ). is_listed (w ∷ rest) m ≡ true) (sym same) there)

pub cycle-apart : (net : List Driver) (cycle : List ℕ) (i j k : ℕ) → IsFeedbackCycle net cycle → is_listed cycle i ≡ true → is_listed cycle j ≡ true → IsChoice net i k → IsChoice net j k → i ≡ j
cycle-apart net [] i j k is left right of_i of_j = absurd is
cycle-apart net (first ∷ rest) i j k is left right of_i of_j =
    choosers-apart net first first rest i j k is.0 is.1 (turned first rest i left) (turned first rest j right) of_i of_j

-- what holds of a variable of a cycle and goes on to what is chosen holds of all its variables
module _ (net : List Driver) (Holds : ℕ → Type 0) (on : (i j : ℕ) → Holds i → IsChoice net i j → Holds j) where
  to-last : (first last : ℕ) (rest : List ℕ) (i : ℕ) → ComesAround net first last rest → is_listed (last ∷ rest) i ≡ true → Holds i → Holds last
  to-last first last [] i around there holds = subst Holds (listed-one i last there) holds
  to-last first last (w ∷ rest) i around there holds =
      elim (or_cases (eqb i last) (is_listed (w ∷ rest) i) there) [
        | inl here ↦ subst Holds (eqb-true i last here) holds
        | inr later ↦ on w last (to-last first w rest i around.1 later holds) around.0
      ]

  to-all : (first last : ℕ) (rest : List ℕ) (i : ℕ) → ComesAround net first last rest → Holds first → is_listed (last ∷ rest) i ≡ true → Holds i
  to-all first last [] i around holds there = subst Holds (sym (listed-one i last there)) (on first last holds around)
  to-all first last (w ∷ rest) i around holds there =
      elim (or_cases (eqb i last) (is_listed (w ∷ rest) i) there) [
        | inl here ↦ subst Holds (sym (eqb-true i last here)) (on w last (to-all first w rest w around.1 holds (listed-head w rest)) around.0)
        | inr later ↦ to-all first w rest i around.1 holds later
      ]

  pub all-around : (cycle : List ℕ) (i j : ℕ) → IsFeedbackCycle net cycle → is_listed cycle i ≡ true → Holds i → is_listed cycle j ≡ true → Holds j
  all-around [] i j is there holds other = absurd is
  all-around (first ∷ rest) i j is there holds other = to-all first first rest j is.0 (to-last first first rest i is.0 there holds) other

-- two cycles that share a variable
pub cycle-included : (net : List Driver) (left right : List ℕ) (i j : ℕ) → IsFeedbackCycle net left → IsFeedbackCycle net right → is_listed left i ≡ true → is_listed right i ≡ true → is_listed left j ≡ true → is_listed right j ≡ true
cycle-included net left right i j is_left is_right in_left in_right there =
    all-around net (λ m. is_listed right m ≡ true) (λ a b holds choice. cycle-closed net right a b is_right holds choice)
    left i j is_left in_left in_right there

pub cycle-least : (net : List Driver) (first : ℕ) (rest : List ℕ) (i : ℕ) → IsFeedbackCycle net (first ∷ rest) → is_listed (first ∷ rest) i ≡ true → first ≤ i
cycle-least net first rest i is there =
    elim (or_cases (eqb i first) (is_listed rest i) there) [
      | inl here ↦ let same = eqb-true i first here in omega arith
      | inr later ↦ let less = All-listed (λ x. first < x) rest i is.2 later in omega arith
    ]

same-rest : (net : List Driver) (first last : ℕ) (left right : List ℕ) (In : ℕ → Type 0) → ((i j k : ℕ) → In i → In j → IsChoice net i k → IsChoice net j k → i ≡ j) → In first → ((i : ℕ) → is_listed left i ≡ true → In i) → ((i : ℕ) → is_listed right i ≡ true → In i) → is_listed left first ≡ false → is_listed right first ≡ false → ComesAround net first last left → ComesAround net first last right → left ≡ right
same-rest net first last [] [] In apart begins of_left of_right out_left out_right left_around right_around = refl
same-rest net first last [] (w ∷ right) In apart begins of_left of_right out_left out_right left_around right_around =
    let same : w ≡ first = apart w first last (of_right w (listed-head w right)) begins right_around.0 left_around in
    absurd (both_ways (is_listed (w ∷ right) first) out_right (subst (λ (m : ℕ). is_listed (w ∷ right) m ≡ true) same (listed-head w right)))
same-rest net first last (v ∷ left) [] In apart begins of_left of_right out_left out_right left_around right_around =
    let same : v ≡ first = apart v first last (of_left v (listed-head v left)) begins left_around.0 right_around in
    absurd (both_ways (is_listed (v ∷ left) first) out_left (subst (λ (m : ℕ). is_listed (v ∷ left) m ≡ true) same (listed-head v left)))
same-rest net first last (v ∷ left) (w ∷ right) In apart begins of_left of_right out_left out_right left_around right_around =
    let same : v ≡ w = apart v w last (of_left v (listed-head v left)) (of_right w (listed-head w right)) left_around.0 right_around.0 in
    let rest : left ≡ right =
    same-rest net first w left right In apart begins (λ i there. of_left i (or_right _ _ there)) (λ i there. of_right i (or_right _ _ there))
    (or_parts _ _ out_left).1 (or_parts _ _ out_right).1
    (subst (λ (m : ℕ). ComesAround net first m left) same left_around.1) right_around.1 in
    subst (λ (m : ℕ). v ∷ left ≡ m ∷ right) same (ap (λ (list : List ℕ). v ∷ list) rest)

pub same-cycle : (net : List Driver) (left right : List ℕ) (i : ℕ) → IsFeedbackCycle net left → IsFeedbackCycle net right → is_listed left i ≡ true → is_listed right i ≡ true → left ≡ right
same-cycle net [] right i is_left is_right in_left in_right = absurd is_left
same-cycle net (v ∷ left) [] i is_left is_right in_left in_right = absurd is_right
same-cycle net (v ∷ left) (w ∷ right) i is_left is_right in_left in_right =
    let to_right = λ (j : ℕ). cycle-included net (v ∷ left) (w ∷ right) i j is_left is_right in_left in_right in
    let to_left = λ (j : ℕ). cycle-included net (w ∷ right) (v ∷ left) i j is_right is_left in_right in_left in
    let up = cycle-least net v left w is_left (to_left w (listed-head w right)) in
    let down = cycle-least net w right v is_right (to_right v (listed-head v left)) in
    let same : v ≡ w = omega arith in
    let is_same : IsFeedbackCycle net (w ∷ left) = subst (λ (m : ℕ). IsFeedbackCycle net (m ∷ left)) same is_left in
    let rest : left ≡ right =
    same-rest net w w left right (λ m. is_listed (w ∷ right) m ≡ true) (λ a b c of_a of_b left_choice right_choice. cycle-apart net (w ∷ right) a b c is_right of_a of_b left_choice right_choice)
    (listed-head w right) (λ j there. to_right j (or_right _ _ there)) (λ j there. or_right _ _ there)
    is_same.1.0 is_right.1.0 is_same.0 is_right.0 in
    subst (λ (m : ℕ). v ∷ left ≡ m ∷ right) same (ap (λ (list : List ℕ). v ∷ list) rest)
