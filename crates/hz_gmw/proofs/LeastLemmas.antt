-- The least of listed numbers that pass a test, and the least that is listed twice.
use Rattle.std.proofs.Common.{◌≡◌, ◌≢◌, ℕ, ◌+◌, ◌<◌, ◌≤◌, ◌⊎◌, Bool, true, false, cond, ◌||◌, List, [], ◌∷◌, ◌++◌, length, set, Option, Some, None, All, IsTrue, refl, sym, ap, ◌∙◌, subst, arith, inl, inr}
use Rattle.std.specs.Prelude.{nat_eq}
use Rattle.std.proofs.lemmas.Bool.{cases_lt, cases_eq, cases_Bool, false≢true, eq-eqb, ne_eqb, or_right, cond-true, cond-false, false_from_ne_true}
use Rattle.std.proofs.lemmas.List.{append-nil, append_assoc, length-set, get_or-set_same, get_or-set_other}
use Rattle.std.proofs.lemmas.List.Elements.{All-head, All-tail}
use Rattle.std.proofs.lemmas.List.Sums.{sum_by-cons, sum_by_push}
use Rattle.hz_net.specs.Network.{bit_at}
use Rattle.hz_lists.specs.Listed.{is_listed, IsRepeatFree}
use Rattle.hz_lists.specs.Least.{IsLeast, IsLeastOf, option_min}
use Rattle.hz_lists.proofs.LeastLemmas.{IsLeastOf-same, IsLeastOf-either}
use Rattle.hz_gmw.specs.LeastListed.{least_from, least_repeat}
use Rattle.hz_gmw.specs.ReplayFaults.{times_listed}
use Rattle.hz_lists.proofs.ListedLemmas.{listed-append, first-or-later, listed-first, listed-other, listed-tail}

-- one number more
IsLeastOf-lesser : (P : ℕ → Type 0) (found : Option ℕ) (x : ℕ) → IsLeastOf P found → IsLeastOf (λ i. P i ⊎ (i ≡ x)) (option_min found (Some x))
IsLeastOf-lesser P found x is = IsLeastOf-either P (λ i. i ≡ x) found (Some x) is (record { here = refl; least = λ j e. omega (arith, e) })

-- what is listed and passes, or was there before
abbrev Among : (ℕ → Type 0) → (ℕ → Bool) → List ℕ → ℕ → Type 0
Among P test list i = P i ⊎ (IsTrue (is_listed list i) × IsTrue (test i))

among-head : (P : ℕ → Type 0) (test : ℕ → Bool) (x : ℕ) (list : List ℕ) → test x ≡ true → (i : ℕ) → Among (λ j. P j ⊎ (j ≡ x)) test list i → Among P test (x ∷ list) i
among-head P test x list passes i (inl (inl p)) = inl p
among-head P test x list passes i (inl (inr e)) = inr (listed-first i x list e, ap test e ∙ passes)
among-head P test x list passes i (inr h) = inr (listed-tail i x list h.0, h.1)

among-split : (P : ℕ → Type 0) (test : ℕ → Bool) (x : ℕ) (list : List ℕ) (i : ℕ) → Among P test (x ∷ list) i → Among (λ j. P j ⊎ (j ≡ x)) test list i
among-split P test x list i (inl p) = inl (inl p)
among-split P test x list i (inr h) = elim (first-or-later i x list h.0) [
  | inl e ↦ inl (inr e)
  | inr rest ↦ inr (rest, h.1)
]

among-later : (P : ℕ → Type 0) (test : ℕ → Bool) (x : ℕ) (list : List ℕ) (i : ℕ) → Among P test list i → Among P test (x ∷ list) i
among-later P test x list i (inl p) = inl p
among-later P test x list i (inr h) = inr (listed-tail i x list h.0, h.1)

among-rest : (P : ℕ → Type 0) (test : ℕ → Bool) (x : ℕ) (list : List ℕ) → test x ≡ false → (i : ℕ) → Among P test (x ∷ list) i → Among P test list i
among-rest P test x list fails i (inl p) = inl p
among-rest P test x list fails i (inr h) = elim (first-or-later i x list h.0) [
  | inl e ↦ absurd (false≢true (sym fails ∙ (ap test (sym e) ∙ h.1)))
  | inr rest ↦ inr (rest, h.1)
]

least-among : (P : ℕ → Type 0) (test : ℕ → Bool) (found : Option ℕ) (list : List ℕ) → IsLeastOf P found → IsLeastOf (Among P test list) (least_from found test list)
least-among P test found [] is = IsLeastOf-same P (Among P test []) found (λ i p. inl p) (λ i h. elim h [ inl p ↦ p | inr none ↦ absurd (false≢true none.0) ]) is
least-among P test found (x ∷ list) is = elim (cases_Bool (test x)) [
  | inl passes ↦ subst (λ (f : Option ℕ). IsLeastOf (Among P test (x ∷ list)) (least_from f test list)) (sym (cond-true (test x) (option_min found (Some x)) found passes)) (IsLeastOf-same (Among (λ j. P j ⊎ (j ≡ x)) test list) (Among P test (x ∷ list)) (least_from (option_min found (Some x)) test list) (among-head P test x list passes) (among-split P test x list) (least-among (λ j. P j ⊎ (j ≡ x)) test (option_min found (Some x)) list (IsLeastOf-lesser P found x is)))
  | inr fails ↦ subst (λ (f : Option ℕ). IsLeastOf (Among P test (x ∷ list)) (least_from f test list)) (sym (cond-false (test x) (option_min found (Some x)) found fails)) (IsLeastOf-same (Among P test list) (Among P test (x ∷ list)) (least_from found test list) (among-later P test x list) (among-rest P test x list fails) (least-among P test found list is))
]

-- the least listed number that passes
pub least-listed : (test : ℕ → Bool) (list : List ℕ) → IsLeastOf (λ i. IsTrue (is_listed list i) × IsTrue (test i)) (least_from None test list)
least-listed test list =
    IsLeastOf-same (Among (λ i. ⊥) test list) (λ i. IsTrue (is_listed list i) × IsTrue (test i)) (least_from None test list)
    (λ i h. elim h [ inl none ↦ absurd none | inr there ↦ there ]) (λ i h. inr h)
    (least-among (λ i. ⊥) test None list (λ i none. none))

times_listed-cons : (i x : ℕ) (list : List ℕ) → times_listed (x ∷ list) i ≡ cond (nat_eq i x) 1 0 + times_listed list i
times_listed-cons i x list = sum_by-cons (λ (y : ℕ). cond (nat_eq i y) 1 0) x list

times_listed-here : (i x : ℕ) (list : List ℕ) → i ≡ x → times_listed (x ∷ list) i ≡ 1 + times_listed list i
times_listed-here i x list same = times_listed-cons i x list ∙ ap (λ (b : Bool). cond b 1 0 + times_listed list i) (eq-eqb i x same)

times_listed-other : (i x : ℕ) (list : List ℕ) → i ≢ x → times_listed (x ∷ list) i ≡ times_listed list i
times_listed-other i x list differ = times_listed-cons i x list ∙ (ap (λ (b : Bool). cond b 1 0 + times_listed list i) (ne_eqb i x differ) ∙ omega arith)

times_listed-push : (i x : ℕ) (list : List ℕ) → times_listed (list ++ x ∷ []) i ≡ times_listed list i + cond (nat_eq i x) 1 0
times_listed-push i x list = sum_by_push (λ (y : ℕ). cond (nat_eq i y) 1 0) list x

times_listed-push-here : (i x : ℕ) (list : List ℕ) → i ≡ x → times_listed (list ++ x ∷ []) i ≡ times_listed list i + 1
times_listed-push-here i x list same = times_listed-push i x list ∙ ap (λ (b : Bool). times_listed list i + cond b 1 0) (eq-eqb i x same)

times_listed-push-other : (i x : ℕ) (list : List ℕ) → i ≢ x → times_listed (list ++ x ∷ []) i ≡ times_listed list i
times_listed-push-other i x list differ = times_listed-push i x list ∙ (ap (λ (b : Bool). times_listed list i + cond b 1 0) (ne_eqb i x differ) ∙ omega arith)

pub listed-times_listed : (i : ℕ) (list : List ℕ) → is_listed list i ≡ true → 1 ≤ times_listed list i
listed-times_listed i [] there = absurd (false≢true there)
listed-times_listed i (x ∷ list) there = elim (first-or-later i x list there) [
  | inl same ↦ (let here = times_listed-here i x list same in omega (arith, here))
  | inr rest ↦ (let later = listed-times_listed i list rest in omega (arith, later, times_listed-cons i x list))
]

pub times_listed-listed : (i : ℕ) (list : List ℕ) → 1 ≤ times_listed list i → is_listed list i ≡ true
times_listed-listed i [] some = absurd (omega (arith, some))
times_listed-listed i (x ∷ list) some = elim (cases_eq i x) [
  | inl same ↦ listed-first i x list same
  | inr differ ↦ (let other = times_listed-other i x list differ in listed-tail i x list (times_listed-listed i list (omega (arith, some, other))))
]

-- a list that names nothing twice repeats none
pub IsRepeatFree-times_listed : (list : List ℕ) → ((i : ℕ) → 2 ≤ times_listed list i → ⊥) → IsRepeatFree list
IsRepeatFree-times_listed [] none = tt
IsRepeatFree-times_listed (x ∷ list) none = (
  false_from_ne_true (is_listed list x) (λ there.
      let later = listed-times_listed x list there in
      let here = times_listed-here x x list refl in
      none x (omega (arith, later, here))),
  IsRepeatFree-times_listed list (λ i twice. none i (omega (arith, twice, times_listed-cons i x list))),
)

-- and the other way round
pub times_listed-IsRepeatFree : (list : List ℕ) → IsRepeatFree list → (i : ℕ) → 2 ≤ times_listed list i → ⊥
times_listed-IsRepeatFree [] once i twice = omega (arith, twice)
times_listed-IsRepeatFree (x ∷ list) once i twice = elim (cases_eq i x) [
  | inl same ↦ (
      let here = times_listed-here i x list same in
      let listed : is_listed list i ≡ true = times_listed-listed i list (omega (arith, twice, here)) in
      false≢true (sym once.0 ∙ (ap (is_listed list) (sym same) ∙ listed))
      )
  | inr differ ↦ (
      let other = times_listed-other i x list differ in
      times_listed-IsRepeatFree list once.1 i (omega (arith, twice, other))
      )
]

-- a number that is named before is named twice now
twice-more : (earlier : List ℕ) (x : ℕ) → is_listed earlier x ≡ true → (i : ℕ) → (2 ≤ times_listed earlier i) ⊎ (i ≡ x) → 2 ≤ times_listed (earlier ++ x ∷ []) i
twice-more earlier x there i (inl twice) = omega (arith, twice, times_listed-push i x earlier)
twice-more earlier x there i (inr same) =
    let once = listed-times_listed x earlier there in
    let here = times_listed-push-here x x earlier refl in
    let more : 2 ≤ times_listed (earlier ++ x ∷ []) x = omega (arith, once, here) in
    subst (λ (j : ℕ). 2 ≤ times_listed (earlier ++ x ∷ []) j) (sym same) more

twice-split : (earlier : List ℕ) (x i : ℕ) → 2 ≤ times_listed (earlier ++ x ∷ []) i → (2 ≤ times_listed earlier i) ⊎ (i ≡ x)
twice-split earlier x i twice = elim (cases_eq i x) [
  | inl same ↦ inr same
  | inr differ ↦ inl (let other = times_listed-push-other i x earlier differ in omega (arith, twice, other))
]

-- one that is not is not
twice-before : (earlier : List ℕ) (x : ℕ) → is_listed earlier x ≡ false → (i : ℕ) → 2 ≤ times_listed (earlier ++ x ∷ []) i → 2 ≤ times_listed earlier i
twice-before earlier x missing i twice = elim (cases_eq i x) [
  | inl same ↦ (
      let here = times_listed-push-here i x earlier same in
      let listed : is_listed earlier i ≡ true = times_listed-listed i earlier (omega (arith, twice, here)) in
      absurd (false≢true (sym missing ∙ (ap (is_listed earlier) (sym same) ∙ listed)))
      )
  | inr differ ↦ (let other = times_listed-push-other i x earlier differ in omega (arith, twice, other))
]

-- marks of what is named so far
abbrev AreNamed : List ℕ → List Bool → Type 0
AreNamed earlier named = (i : ℕ) → i < length named → bit_at named i ≡ is_listed earlier i

named-more : (earlier : List ℕ) (named : List Bool) (x : ℕ) → x < length named → AreNamed earlier named → AreNamed (earlier ++ x ∷ []) (set named x true)
named-more earlier named x within are i inside = elim (cases_eq i x) [
  | inl same ↦ ap (bit_at (set named x true)) same ∙ (get_or-set_same named x true false within ∙ sym (listed-append earlier (x ∷ []) i ∙ or_right (is_listed earlier i) (is_listed (x ∷ []) i) (listed-first i x [] same)))
  | inr differ ↦ (
      let below : i < length named = omega (arith, inside, length-set named x true) in
      get_or-set_other named x i true false differ ∙ (are i below ∙ sym (listed-append earlier (x ∷ []) i ∙ (ap (λ (b : Bool). is_listed earlier i || b) (listed-other i x [] differ) ∙ or-false (is_listed earlier i))))
      )
]
  where
    or-false : (a : Bool) → a || false ≡ a
    or-false true = refl
    or-false false = refl

again-among : (earlier list : List ℕ) (found : Option ℕ) (named : List Bool) → AreNamed earlier named → All (λ i. i < length named) list → IsLeastOf (λ i. 2 ≤ times_listed earlier i) found → IsLeastOf (λ i. 2 ≤ times_listed (earlier ++ list) i) (least_repeat found named list)
again-among earlier [] found named are all is =
    subst (λ (whole : List ℕ). IsLeastOf (λ i. 2 ≤ times_listed whole i) found) (sym (append-nil earlier)) is
again-among earlier (x ∷ list) found named are all is =
    let within : x < length named = All-head (λ (i : ℕ). i < length named) x list all in
    let rest : All (λ (i : ℕ). i < length (set named x true)) list = subst (λ (n : ℕ). All (λ (i : ℕ). i < n) list) (sym (length-set named x true)) (All-tail (λ (i : ℕ). i < length named) x list all) in
    let next = earlier ++ x ∷ [] in
    subst (λ (whole : List ℕ). IsLeastOf (λ i. 2 ≤ times_listed whole i) (least_repeat found named (x ∷ list))) (append_assoc earlier (x ∷ []) list)
    (elim (cases_Bool (bit_at named x)) [
      | inl again ↦ (
          let there : is_listed earlier x ≡ true = sym (are x within) ∙ again in
          subst (λ (f : Option ℕ). IsLeastOf (λ i. 2 ≤ times_listed (next ++ list) i) (least_repeat f (set named x true) list)) (sym (cond-true (bit_at named x) (option_min found (Some x)) found again))
          (again-among next list (option_min found (Some x)) (set named x true) (named-more earlier named x within are) rest
          (IsLeastOf-same (λ i. (2 ≤ times_listed earlier i) ⊎ (i ≡ x)) (λ i. 2 ≤ times_listed next i) (option_min found (Some x)) (twice-more earlier x there) (twice-split earlier x) (IsLeastOf-lesser (λ i. 2 ≤ times_listed earlier i) found x is)))
          )
      | inr fresh ↦ (
          let missing : is_listed earlier x ≡ false = sym (are x within) ∙ fresh in
          subst (λ (f : Option ℕ). IsLeastOf (λ i. 2 ≤ times_listed (next ++ list) i) (least_repeat f (set named x true) list)) (sym (cond-false (bit_at named x) (option_min found (Some x)) found fresh))
          (again-among next list found (set named x true) (named-more earlier named x within are) rest
          (IsLeastOf-same (λ i. 2 ≤ times_listed earlier i) (λ i. 2 ≤ times_listed next i) found (λ i twice. omega (arith, twice, times_listed-push i x earlier)) (twice-before earlier x missing) is))
          )
    ])

-- the least number that is listed twice
pub least-repeated : (list : List ℕ) (named : List Bool) → ((i : ℕ) → i < length named → bit_at named i ≡ false) → All (λ i. i < length named) list → IsLeastOf (λ i. 2 ≤ times_listed list i) (least_repeat None named list)
least-repeated list named none all = again-among [] list None named none all (λ i twice. omega (arith, twice))

-- a scan: the first number that passes a test is the least
pub least-scanned : (P : ℕ → Type 0) (test : ℕ → Bool) (count k : ℕ) → k < count → ((i : ℕ) → i < count → test i ≡ true → P i) → ((i : ℕ) → P i → (i < count) × (test i ≡ true)) → ((i : ℕ) → i < k → test i ≡ false) → test k ≡ true → IsLeast P k
least-scanned P test count k inside to back below here = record {
  here = to k inside here;
  least = λ j holds. elim (cases_lt j k) [
    | inl less ↦ absurd (false≢true (sym (below j less) ∙ (back j holds).1))
    | inr from ↦ from
  ];
}

-- and where none passes there is none
pub none-scanned : (P : ℕ → Type 0) (test : ℕ → Bool) (count k : ℕ) → count ≤ k → ((i : ℕ) → P i → (i < count) × (test i ≡ true)) → ((i : ℕ) → i < k → test i ≡ false) → (i : ℕ) → P i → ⊥
none-scanned P test count k end back below i holds =
    let found = back i holds in
    let inside : i < count = found.0 in
    false≢true (sym (below i (omega (arith, inside, end))) ∙ found.1)

pub scanned-more : (test : ℕ → Bool) (k : ℕ) → ((i : ℕ) → i < k → test i ≡ false) → test k ≡ false → (i : ℕ) → i < k + 1 → test i ≡ false
scanned-more test k below here i few = elim (cases_lt i k) [
  | inl less ↦ below i less
  | inr from ↦ (let same : i ≡ k = omega (arith, few, from) in ap test same ∙ here)
]
