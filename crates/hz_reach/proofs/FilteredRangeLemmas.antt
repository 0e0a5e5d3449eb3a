-- The variables that pass a test: which they are, that none comes twice, and how they are marked one after the other.
use Rattle.std.proofs.Common.{◌≡◌, ◌≢◌, ℕ, zero, suc, ◌+◌, ◌<◌, Bool, true, false, cond, List, [], ◌∷◌, ◌++◌, length, refl, sym, ap, subst, ◌∙◌, arith, inl, inr, eqb, length-append, append-nil, append_assoc, add-one, filter}
use Rattle.hz_reach.proofs.Words.{range_with_len, filter-append, length-range_with_len, or_cases, or_left, false_from_ne_true, differs, is_listed}
use Rattle.hz_reach.proofs.Words.{IsRepeatFree, Contains-listed, listed-Contains, filtered_range, listed-cases, is_repeat_free-append, is_repeat_free-bound}
use Rattle.hz_reach.proofs.Words.{Ascends, ascends-lower, ascends-filter, ascends-once, filtered-is, is-filtered, get_or-range_with_len}
use Rattle.std.proofs.lemmas.Bool.{eqb-true, eq-eqb}

-- a list of one
pub only-one : (x i : ℕ) → i ≡ x → is_listed (x ∷ []) i ≡ true
only-one x i same = or_left (eqb i x) false (eq-eqb i x same)

pub is-one : (x i : ℕ) → is_listed (x ∷ []) i ≡ true → i ≡ x
is-one x i there = elim (or_cases (eqb i x) false there) [ inl same ↦ eqb-true i x same | inr none ↦ cc ]

-- the last of the variables comes last, if it passes
one-more : (first count last : ℕ) → first + count ≡ last → range_with_len first (suc count) ≡ range_with_len first count ++ last ∷ []
one-more first zero last is = let same : first ≡ last = omega (arith, is) in ap (λ (n : ℕ). n ∷ []) same
one-more first (suc count) last is = ap (λ (list : List ℕ). first ∷ list) (one-more (first + 1) count last (omega (arith, is)))

pub filtered_range-last : (test : ℕ → Bool) (first count : ℕ) → filtered_range test first (suc count) ≡ filtered_range test first count ++ cond (test (first + count)) ((first + count) ∷ []) []
filtered_range-last test first count =
    ap (filter test) (one-more first count (first + count) refl) ∙ filter-append test (range_with_len first count) ((first + count) ∷ [])

-- what is picked has a number from the first on, and passes the test
pub record IsPicked (test : ℕ → Bool) (first count i : ℕ) : Type 0 where
  pub place : ℕ
  pub few : place < count
  pub is : i ≡ first + place
  pub passes : test i ≡ true

pub filtered_range-is : (test : ℕ → Bool) (first count i : ℕ) → is_listed (filtered_range test first count) i ≡ true → IsPicked test first count i
filtered_range-is test first count i there =
    let is = filtered-is test (range_with_len first count) i there in
    let at = Contains-listed (range_with_len first count) i is.1 in
    let few : at.0 < count = omega (arith, at.1, length-range_with_len first count) in
    record { place = at.0; few = few; is = sym at.2 ∙ get_or-range_with_len first count at.0 i few; passes = is.0 }

pub is-filtered_range : (test : ℕ → Bool) (first count place : ℕ) → place < count → test (first + place) ≡ true → is_listed (filtered_range test first count) (first + place) ≡ true
is-filtered_range test first count place few passes =
    is-filtered test (range_with_len first count) (first + place)
    (listed-Contains (range_with_len first count) (first + place)
    (place, omega (arith, few, length-range_with_len first count), get_or-range_with_len first count place (first + place) few))
    passes

pub ascends-range : (first count : ℕ) → Ascends first (range_with_len first count)
ascends-range first zero = tt
ascends-range first (suc count) = (omega arith, ascends-lower (first + 1) (suc first) (range_with_len (first + 1) count) (omega arith) (ascends-range (first + 1) count))

pub filtered_range-once : (test : ℕ → Bool) (first count : ℕ) → IsRepeatFree (filtered_range test first count)
filtered_range-once test first count =
    ascends-once first (filtered_range test first count) (ascends-filter test first (range_with_len first count) (ascends-range first count))

-- the test of two bits
pub differs-true : (here there : Bool) → differs here there ≡ true → here ≢ there
differs-true false false e = λ s. cc
differs-true false true e = λ s. cc
differs-true true false e = λ s. cc
differs-true true true e = λ s. cc

pub true-differs : (here there : Bool) → here ≢ there → differs here there ≡ true
true-differs false false h = absurd (h refl)
true-differs false true h = refl
true-differs true false h = refl
true-differs true true h = absurd (h refl)

-- One more variable is marked, which is greater than all that are.

pub mark-once : (marked : List ℕ) (var : ℕ) → IsRepeatFree marked → ((i : ℕ) → is_listed marked i ≡ true → i < var) → IsRepeatFree (marked ++ var ∷ [])
mark-once marked var once below =
    is_repeat_free-append marked (var ∷ []) once (refl, tt)
    (λ i there. false_from_ne_true _ (λ only. (let less = below i there in let same = is-one var i only in omega (arith, less, same))))

pub mark-inside : (marked : List ℕ) (var count : ℕ) → ((i : ℕ) → is_listed marked i ≡ true → i < count) → var < count → (i : ℕ) → is_listed (marked ++ var ∷ []) i ≡ true → i < count
mark-inside marked var count inside less i there =
    elim (listed-cases marked (var ∷ []) i there) [
      | inl before ↦ inside i before
      | inr only ↦ (let same = is-one var i only in omega (arith, less, same))
    ]

-- and so it is if the variable is marked or not
pub marked-once : (marked : List ℕ) (var : ℕ) (wanted : Bool) → IsRepeatFree marked → ((i : ℕ) → is_listed marked i ≡ true → i < var) → IsRepeatFree (marked ++ cond wanted (var ∷ []) [])
marked-once marked var true once below = mark-once marked var once below
marked-once marked var false once below = subst IsRepeatFree (sym (append-nil marked)) once

pub marked-inside : (marked : List ℕ) (var count : ℕ) (wanted : Bool) → ((i : ℕ) → is_listed marked i ≡ true → i < count) → var < count
    → (i : ℕ) → is_listed (marked ++ cond wanted (var ∷ []) []) i ≡ true → i < count
marked-inside marked var count true inside less = mark-inside marked var count inside less
marked-inside marked var count false inside less = subst (λ (list : List ℕ). (i : ℕ) → is_listed list i ≡ true → i < count) (sym (append-nil marked)) inside

-- there is room for it
pub mark-room : (marked : List ℕ) (var count : ℕ) → IsRepeatFree marked → ((i : ℕ) → is_listed marked i ≡ true → i < count) → var < count → ((i : ℕ) → is_listed marked i ≡ true → i < var) → length marked < count
mark-room marked var count once inside less below =
    let bound = is_repeat_free-bound (marked ++ var ∷ []) count (mark-once marked var once below) (mark-inside marked var count inside less) in
    omega (arith, bound, length-append marked (var ∷ []))

-- what is picked so far is less than the next number
pub filtered_range-below : (test : ℕ → Bool) (first count var i : ℕ) → var ≡ first + count → is_listed (filtered_range test first count) i ≡ true → i < var
filtered_range-below test first count var i next there =
    let is = filtered_range-is test first count i there in
    omega (arith, next, is.is, is.few)

-- the next number is picked, or not
pub filtered_range-next : (test : ℕ → Bool) (first count var : ℕ) → var ≡ first + count → filtered_range test first count ++ cond (test var) (var ∷ []) [] ≡ filtered_range test first (count + 1)
filtered_range-next test first count var next =
    ap (λ (n : ℕ). filtered_range test first count ++ cond (test n) (n ∷ []) []) next
    ∙ (sym (filtered_range-last test first count) ∙ ap (filtered_range test first) (sym (add-one count)))

-- what is picked of one range, and then of the next one, is picked of both
pub filtered_range-joined : (test : ℕ → Bool) (first count next more all : ℕ) → next ≡ first + count → all ≡ count + more
    → filtered_range test first count ++ filtered_range test next more ≡ filtered_range test first all
filtered_range-joined test first count next zero all is whole =
    let same : count ≡ all = omega (arith, whole) in
    append-nil (filtered_range test first count) ∙ ap (filtered_range test first) same
filtered_range-joined test first count next (suc more) all is whole =
    let last : next + more ≡ first + (count + more) = omega (arith, is) in
    let same : suc (count + more) ≡ all = omega (arith, whole) in
    let picked : ℕ → List ℕ = λ n. cond (test n) (n ∷ []) [] in
    ap (λ (list : List ℕ). filtered_range test first count ++ list) (filtered_range-last test next more)
    ∙ (sym (append_assoc (filtered_range test first count) (filtered_range test next more) (picked (next + more)))
    ∙ (ap (λ (list : List ℕ). list ++ picked (next + more)) (filtered_range-joined test first count next more (count + more) is refl)
    ∙ (ap (λ (n : ℕ). filtered_range test first (count + more) ++ picked n) last
    ∙ (sym (filtered_range-last test first (count + more)) ∙ ap (filtered_range test first) same))))

-- if none passes, none is picked
pub filtered_range-none : (test : ℕ → Bool) (first count : ℕ) → ((i : ℕ) → i < count → test (first + i) ≡ false) → filtered_range test first count ≡ []
filtered_range-none test first zero none = refl
filtered_range-none test first (suc count) none =
    filtered_range-last test first count
    ∙ (ap (λ (list : List ℕ). list ++ cond (test (first + count)) ((first + count) ∷ []) []) (filtered_range-none test first count (λ i few. none i (omega (arith, few))))
    ∙ ap (λ (b : Bool). cond b ((first + count) ∷ []) []) (none count (omega arith)))
