-- What a list of numbers names: in lists of one, of two together, of those that pass a test, and by places; lists that name
-- nothing twice, and those that ascend.
use Rattle.std.proofs.Common.{◌≡◌, ◌≢◌, ℕ, zero, suc, ◌<◌, ◌≤◌, ◌⊎◌, ◌||◌, ◌&&◌, Bool, true, false, List, [], ◌∷◌, ◌++◌, length, get_or, take, All, refl, sym, ap, ◌∙◌, subst, arith, inl, inr, eqb}
use Rattle.std.specs.Prelude.{Contains}
use Rattle.std.specs.List.{filter, AllByRecursion, IsDistinct}
use Rattle.std.proofs.lemmas.Bool.{cases_Bool, and_parts, and_from, or_cases, or_parts, or_from, or_left, or_right, both_ways, eqb-true, eq-eqb, ne_eqb, false_from_ne_true}
use Rattle.std.proofs.lemmas.List.Folds.{list_any-append}
use Rattle.std.proofs.lemmas.List.Elements.{All-head, All-tail, All-nil, All-cons}
use Rattle.std.proofs.lemmas.Map.Steps.{length-le_from_distinct_below}
use Rattle.std.proofs.lemmas.Map.Views.{any-filter_same}
use Rattle.hz_lists.specs.Listed.{is_listed, IsRepeatFree}

-- a list with a first number
pub listed-first : (i x : ℕ) (list : List ℕ) → i ≡ x → is_listed (x ∷ list) i ≡ true
listed-first i x list same = or_left (eqb i x) (is_listed list i) (eq-eqb i x same)

pub listed-head : (x : ℕ) (xs : List ℕ) → is_listed (x ∷ xs) x ≡ true
listed-head x xs = listed-first x x xs refl

pub listed-tail : (i x : ℕ) (list : List ℕ) → is_listed list i ≡ true → is_listed (x ∷ list) i ≡ true
listed-tail i x list there = or_right (eqb i x) (is_listed list i) there

pub first-or-later : (i x : ℕ) (list : List ℕ) → is_listed (x ∷ list) i ≡ true → (i ≡ x) ⊎ (is_listed list i ≡ true)
first-or-later i x list there = elim (or_cases (eqb i x) (is_listed list i) there) [
  | inl here ↦ inl (eqb-true i x here)
  | inr rest ↦ inr rest
]

pub listed-other : (i x : ℕ) (list : List ℕ) → i ≢ x → is_listed (x ∷ list) i ≡ is_listed list i
listed-other i x list differ = ap (λ (b : Bool). b || is_listed list i) (ne_eqb i x differ)

pub listed-one : (i x : ℕ) → is_listed (x ∷ []) i ≡ true → i ≡ x
listed-one i x there = elim (or_cases _ _ there) [ inl same ↦ eqb-true i x same | inr wrong ↦ absurd (both_ways false refl wrong) ]

-- what holds of all that is listed
pub All-listed : (P : ℕ → Type 0) (list : List ℕ) (i : ℕ) → All P list → is_listed list i ≡ true → P i
All-listed P [] i all there = absurd (both_ways false refl there)
All-listed P (x ∷ list) i all there = elim (first-or-later i x list there) [
  | inl same ↦ subst P (sym same) (All-head P x list all)
  | inr rest ↦ All-listed P list i (All-tail P x list all) rest
]

pub All-each : (P : ℕ → Type 0) (list : List ℕ) → ((i : ℕ) → is_listed list i ≡ true → P i) → All P list
All-each P [] each = All-nil P
All-each P (x ∷ list) each = All-cons P x list (each x (listed-head x list)) (All-each P list (λ i there. each i (listed-tail i x list there)))

-- what is listed in two lists together
pub listed-append : (xs ys : List ℕ) (i : ℕ) → is_listed (xs ++ ys) i ≡ (is_listed xs i || is_listed ys i)
listed-append xs ys i = list_any-append (eqb i) xs ys

pub listed-cases : (xs ys : List ℕ) (i : ℕ) → is_listed (xs ++ ys) i ≡ true → (is_listed xs i ≡ true) ⊎ (is_listed ys i ≡ true)
listed-cases xs ys i there = or_cases _ _ (sym (listed-append xs ys i) ∙ there)

pub listed-left : (xs ys : List ℕ) (i : ℕ) → is_listed xs i ≡ true → is_listed (xs ++ ys) i ≡ true
listed-left xs ys i there = listed-append xs ys i ∙ or_left _ _ there

pub listed-right : (xs ys : List ℕ) (i : ℕ) → is_listed ys i ≡ true → is_listed (xs ++ ys) i ≡ true
listed-right xs ys i there = listed-append xs ys i ∙ or_right _ _ there

pub unlisted-append : (xs ys : List ℕ) (i : ℕ) → is_listed xs i ≡ false → is_listed ys i ≡ false → is_listed (xs ++ ys) i ≡ false
unlisted-append xs ys i left right = listed-append xs ys i ∙ or_from _ _ left right

pub unlisted-parts : (xs ys : List ℕ) (i : ℕ) → is_listed (xs ++ ys) i ≡ false → (is_listed xs i ≡ false) × (is_listed ys i ≡ false)
unlisted-parts xs ys i out = or_parts _ _ (sym (listed-append xs ys i) ∙ out)

-- in a list with one more at the end
pub pushed-last : (list : List ℕ) (x : ℕ) → is_listed (list ++ x ∷ []) x ≡ true
pushed-last list x = listed-right list (x ∷ []) x (listed-head x [])

pub pushed-cases : (list : List ℕ) (x i : ℕ) → is_listed (list ++ x ∷ []) i ≡ true → (is_listed list i ≡ true) ⊎ (i ≡ x)
pushed-cases list x i there = elim (listed-cases list (x ∷ []) i there) [
  | inl front ↦ inl front
  | inr last ↦ inr (listed-one i x last)
]

-- by places
pub listed-at : (xs : List ℕ) (at : ℕ) → at < length xs → is_listed xs (get_or xs at 0) ≡ true
listed-at [] at within = absurd (omega arith)
listed-at (x ∷ xs) zero within = listed-head x xs
listed-at (x ∷ xs) (suc at) within = listed-tail (get_or xs at 0) x xs (listed-at xs at (omega arith))

pub listed-place : (xs : List ℕ) (i : ℕ) → is_listed xs i ≡ true → (at : ℕ) × (at < length xs) × (get_or xs at 0 ≡ i)
listed-place [] i there = absurd (both_ways false refl there)
listed-place (x ∷ xs) i there =
    elim (or_cases _ _ there) [
      | inl same ↦ (0, omega arith, sym (eqb-true i x same))
      | inr later ↦ let found = listed-place xs i later in (suc found.0, omega (arith, found.1), found.2)
    ]

pub listed-from_take : (n : ℕ) (xs : List ℕ) (i : ℕ) → is_listed (take n xs) i ≡ true → is_listed xs i ≡ true
listed-from_take zero xs i there = absurd (both_ways false refl there)
listed-from_take (suc n) [] i there = absurd (both_ways false refl there)
listed-from_take (suc n) (x ∷ xs) i there =
    elim (or_cases (eqb i x) (is_listed (take n xs) i) there) [
      | inl here ↦ or_left (eqb i x) (is_listed xs i) here
      | inr later ↦ or_right (eqb i x) (is_listed xs i) (listed-from_take n xs i later)
    ]

pub listed-Contains : (list : List ℕ) (i : ℕ) → Contains list i → is_listed list i ≡ true
listed-Contains [] i there = absurd (omega (arith, there.1))
listed-Contains (x ∷ list) i there = found (x ∷ list) there.0 there.1 there.2
  where
    found : (list : List ℕ) (k : ℕ) → k < length list → get_or list k i ≡ i → is_listed list i ≡ true
    found [] k few is = absurd (omega (arith, few))
    found (y ∷ list) zero few is = listed-first i y list (sym is)
    found (y ∷ list) (suc k) few is = listed-tail i y list (found list k (omega (arith, few)) is)

pub Contains-listed : (list : List ℕ) (i : ℕ) → is_listed list i ≡ true → Contains list i
Contains-listed [] i there = absurd (both_ways false refl there)
Contains-listed (x ∷ list) i there = elim (first-or-later i x list there) [
  | inl same ↦ (0, omega arith, sym same)
  | inr rest ↦ (
      let found = Contains-listed list i rest in
      let few : found.0 < length list = found.1 in
      (suc found.0, omega (arith, few), found.2)
      )
]

-- lists that name nothing twice: one more at the end, and one after the other
pub is_repeat_free-push : (xs : List ℕ) (x : ℕ) → IsRepeatFree xs → is_listed xs x ≡ false → IsRepeatFree (xs ++ x ∷ [])
is_repeat_free-push [] x once out = (refl, tt)
is_repeat_free-push (y ∷ xs) x once out =
    let parts = or_parts _ _ out in
    (unlisted-append xs (x ∷ []) y once.0 (or_from _ _ (eqb-turned x y parts.0) refl), is_repeat_free-push xs x once.1 parts.1)
  where
    eqb-turned : (a b : ℕ) → eqb a b ≡ false → eqb b a ≡ false
    eqb-turned a b e =
        elim (cases_Bool (eqb b a)) [
          | inl same ↦ absurd (both_ways (eqb a b) e (eq-eqb a b (sym (eqb-true b a same))))
          | inr other ↦ other
        ]

pub is_repeat_free-front : (list : List ℕ) (x : ℕ) → IsRepeatFree (list ++ x ∷ []) → IsRepeatFree list × (is_listed list x ≡ false)
is_repeat_free-front [] x once = (tt, refl)
is_repeat_free-front (y ∷ list) x once =
    let rest = is_repeat_free-front list x once.1 in
    let out = unlisted-parts list (x ∷ []) y once.0 in
    let differ : x ≢ y = λ same. both_ways (is_listed (x ∷ []) y) out.1 (listed-first y x [] (sym same)) in
    ((out.0, rest.0), listed-other x y list differ ∙ rest.1)

-- of a list that names none twice, an element is not listed among those before it
pub unlisted-before : (xs : List ℕ) (at : ℕ) → IsRepeatFree xs → at < length xs → is_listed (take at xs) (get_or xs at 0) ≡ false
unlisted-before xs zero once inside = refl
unlisted-before [] (suc at) once inside = absurd (omega arith)
unlisted-before (x ∷ xs) (suc at) once inside =
    or_from _ _ (not-head xs at once.0 (omega arith)) (unlisted-before xs at once.1 (omega arith))
  where
    not-head : (ys : List ℕ) (k : ℕ) → is_listed ys x ≡ false → k < length ys → eqb (get_or ys k 0) x ≡ false
    not-head [] k out few = absurd (omega arith)
    not-head (y ∷ ys) zero out few =
        elim (cases_Bool (eqb y x)) [
          | inl same ↦ absurd (both_ways (eqb x y) (or_parts _ _ out).0 (eq-eqb x y (sym (eqb-true y x same))))
          | inr other ↦ other
        ]
    not-head (y ∷ ys) (suc k) out few = not-head ys k (or_parts _ _ out).1 (omega arith)

-- two lists that share no number
abbrev pub AreApart : List ℕ → List ℕ → Type 0
AreApart xs ys = (i : ℕ) → is_listed xs i ≡ true → is_listed ys i ≡ false

pub is_repeat_free-append : (xs ys : List ℕ) → IsRepeatFree xs → IsRepeatFree ys → AreApart xs ys → IsRepeatFree (xs ++ ys)
is_repeat_free-append [] ys left right apart = right
is_repeat_free-append (x ∷ xs) ys left right apart =
    (unlisted-append xs ys x left.0 (apart x (listed-head x xs)), is_repeat_free-append xs ys left.1 right (λ i there. apart i (or_right _ _ there)))

pub is_repeat_free-right : (xs ys : List ℕ) → IsRepeatFree (xs ++ ys) → IsRepeatFree ys
is_repeat_free-right [] ys whole = whole
is_repeat_free-right (x ∷ xs) ys whole = is_repeat_free-right xs ys whole.1

-- the parts of a list that names none twice share no number
pub is_repeat_free-apart : (xs ys : List ℕ) → IsRepeatFree (xs ++ ys) → AreApart xs ys
is_repeat_free-apart [] ys whole i there = absurd (both_ways false refl there)
is_repeat_free-apart (x ∷ xs) ys whole i there =
    elim (or_cases _ _ there) [
      | inl same ↦ subst (λ (n : ℕ). is_listed ys n ≡ false) (sym (eqb-true i x same)) (unlisted-parts xs ys x whole.0).1
      | inr later ↦ is_repeat_free-apart xs ys whole.1 i later
    ]

-- a list of numbers below a number that names none twice is no longer than the number
distinct-from : (x : ℕ) (xs : List ℕ) → is_listed xs x ≡ false → AllByRecursion (λ y. eqb x y ≡ false) xs
distinct-from x [] out = tt
distinct-from x (y ∷ ys) out = let parts = or_parts _ _ out in (parts.0, distinct-from x ys parts.1)

pub distinct : (xs : List ℕ) → IsRepeatFree xs → IsDistinct eqb xs
unfolding IsDistinct
distinct [] once = tt
distinct (x ∷ xs) once = (distinct-from x xs once.0, distinct xs once.1)

pub is_repeat_free-bound : (xs : List ℕ) (n : ℕ) → IsRepeatFree xs → ((i : ℕ) → is_listed xs i ≡ true → i < n) → length xs ≤ n
is_repeat_free-bound xs n once inside = length-le_from_distinct_below xs n (distinct xs once) inside

-- each number of a list is greater than those before it, and none is below a first one
abbrev pub Ascends : ℕ → List ℕ → Type 0
Ascends low [] = Unit {0}
Ascends low (x ∷ list) = (low ≤ x) × Ascends (suc x) list

pub ascends-lower : (low lower : ℕ) (list : List ℕ) → lower ≤ low → Ascends low list → Ascends lower list
ascends-lower low lower [] less ascends = tt
ascends-lower low lower (x ∷ list) less ascends = (omega (arith, less, ascends.0), ascends.1)

pub ascends-filter : (test : ℕ → Bool) (low : ℕ) (list : List ℕ) → Ascends low list → Ascends low (filter test list)
ascends-filter test low [] ascends = tt
ascends-filter test low (x ∷ list) ascends =
    elim (cases_Bool (test x)) [
      | inl passes ↦ rw passes (ascends.0, ascends-filter test (suc x) list ascends.1)
      | inr fails ↦ rw fails (ascends-lower (suc x) low (filter test list) (omega (arith, ascends.0)) (ascends-filter test (suc x) list ascends.1))
    ]

pub listed-above : (low : ℕ) (list : List ℕ) (i : ℕ) → Ascends low list → is_listed list i ≡ true → low ≤ i
listed-above low [] i ascends there = absurd (both_ways false refl there)
listed-above low (x ∷ list) i ascends there =
    elim (or_cases (eqb i x) (is_listed list i) there) [
      | inl same ↦ omega (arith, eqb-true i x same, ascends.0)
      | inr later ↦ omega (arith, listed-above (suc x) list i ascends.1 later, ascends.0)
    ]

pub ascends-once : (low : ℕ) (list : List ℕ) → Ascends low list → IsRepeatFree list
ascends-once low [] ascends = tt
ascends-once low (x ∷ list) ascends =
    (false_from_ne_true _ (λ there. omega (arith, listed-above (suc x) list x ascends.1 there)), ascends-once (suc x) list ascends.1)

pub at-least : (low : ℕ) (list : List ℕ) (place : ℕ) → Ascends low list → place < length list → low ≤ get_or list place 0
at-least low [] place ascends inside = absurd (omega (arith, inside))
at-least low (y ∷ list) zero ascends inside = ascends.0
at-least low (y ∷ list) (suc place) ascends inside = omega (arith, at-least (suc y) list place ascends.1 (omega (arith, inside)), ascends.0)

-- those before a place are less than the one at it
pub listed-before : (low : ℕ) (list : List ℕ) (place i : ℕ) → Ascends low list → place < length list → is_listed (take place list) i ≡ true → i < get_or list place 0
listed-before low [] place i ascends inside there = absurd (omega (arith, inside))
listed-before low (x ∷ list) zero i ascends inside there = absurd (both_ways false refl there)
listed-before low (x ∷ list) (suc place) i ascends inside there =
    elim (or_cases (eqb i x) (is_listed (take place list) i) there) [
      | inl same ↦ omega (arith, eqb-true i x same, at-least (suc x) list place ascends.1 (omega (arith, inside)))
      | inr later ↦ listed-before (suc x) list place i ascends.1 (omega (arith, inside)) later
    ]

-- what passes a filter was listed, and passes the test
pub listed-filter : (test : ℕ → Bool) (list : List ℕ) (i : ℕ) → is_listed (filter test list) i ≡ (test i && is_listed list i)
listed-filter test list i = any-filter_same (eqb i) test (test i) (λ k same. ap test (sym (eqb-true i k same))) list

pub filtered-is : (test : ℕ → Bool) (list : List ℕ) (i : ℕ) → is_listed (filter test list) i ≡ true → (test i ≡ true) × (is_listed list i ≡ true)
filtered-is test list i there = and_parts _ _ (sym (listed-filter test list i) ∙ there)

pub is-filtered : (test : ℕ → Bool) (list : List ℕ) (i : ℕ) → is_listed list i ≡ true → test i ≡ true → is_listed (filter test list) i ≡ true
is-filtered test list i there passes = listed-filter test list i ∙ and_from _ _ passes there
