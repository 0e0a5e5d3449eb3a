-- Sums over numbers below a bound and over lists that repeat nothing: what a change at some numbers does to them.
use Rattle.std.proofs.Common.{◌≡◌, ◌≢◌, ℕ, zero, suc, ◌+◌, ◌<◌, ◌≤◌, Bool, true, false, cond, List, [], ◌∷◌, length, map, All, refl, sym, ap, ◌∙◌, arith, inl, inr}
use Rattle.std.specs.Prelude.{nat_eq, sum_by, count_by}
use Rattle.std.specs.List.{range_with_len}
use Rattle.std.proofs.lemmas.Bool.{cases_eq, false≢true, eq-eqb, ne_eqb}
use Rattle.std.proofs.lemmas.List.Elements.{All-head, All-tail}
use Rattle.std.proofs.lemmas.List.Sums.{sum_by-cons}
use Rattle.hz_lists.specs.Listed.{is_listed, IsRepeatFree}
use Rattle.hz_lists.proofs.ListedLemmas.{listed-first, listed-tail, first-or-later, listed-other}

-- 1 for a bit that is 1
abbrev pub weight : Bool → ℕ
weight bit = cond bit 1 0

-- functions that agree on a range have the same sum over it
pub range-same : (f g : ℕ → ℕ) (start n : ℕ) → ((i : ℕ) → start ≤ i → i < start + n → f i ≡ g i) → sum_by f (range_with_len start n) ≡ sum_by g (range_with_len start n)
range-same f g start zero each = refl
range-same f g start (suc n) each =
    let first : f start ≡ g start = each start (omega arith) (omega arith) in
    let rest = range-same f g (start + 1) n (λ i from below. each i (omega (arith, from)) (omega (arith, below))) in
    omega (arith, first, rest, sum_by-cons f start (range_with_len (start + 1) n), sum_by-cons g start (range_with_len (start + 1) n))

-- and those that agree but at one number differ by that in their sums
pub range-one : (f g : ℕ → ℕ) (start n x : ℕ) → start ≤ x → x < start + n → ((i : ℕ) → start ≤ i → i < start + n → i ≢ x → f i ≡ g i) → sum_by f (range_with_len start n) + g x ≡ sum_by g (range_with_len start n) + f x
range-one f g start zero x from below each = absurd (omega (arith, from, below))
range-one f g start (suc n) x from below each = elim (cases_eq start x) [
  | inl here ↦ (
      let rest = range-same f g (start + 1) n (λ i later within. each i (omega (arith, later)) (omega (arith, within)) (omega (arith, later, here))) in
      let left : f start ≡ f x = ap f here in
      let right : g start ≡ g x = ap g here in
      omega (arith, left, right, rest, sum_by-cons f start (range_with_len (start + 1) n), sum_by-cons g start (range_with_len (start + 1) n))
      )
  | inr other ↦ (
      let first : f start ≡ g start = each start (omega arith) (omega arith) other in
      let rest = range-one f g (start + 1) n x (omega (arith, from, other)) (omega (arith, below)) (λ i later within. each i (omega (arith, later)) (omega (arith, within))) in
      omega (arith, first, rest, sum_by-cons f start (range_with_len (start + 1) n), sum_by-cons g start (range_with_len (start + 1) n))
      )
]

-- functions that agree at the members of a list have the same sum over it
pub list-same : (f g : ℕ → ℕ) (list : List ℕ) → ((i : ℕ) → is_listed list i ≡ true → f i ≡ g i) → sum_by f list ≡ sum_by g list
list-same f g [] each = refl
list-same f g (x ∷ list) each =
    let first : f x ≡ g x = each x (listed-first x x list refl) in
    let rest = list-same f g list (λ i there. each i (listed-tail i x list there)) in
    omega (arith, first, rest, sum_by-cons f x list, sum_by-cons g x list)

-- and those that agree but at one member differ by that in their sums
pub list-one : (f g : ℕ → ℕ) (list : List ℕ) (x : ℕ) → IsRepeatFree list → is_listed list x ≡ true → ((i : ℕ) → is_listed list i ≡ true → i ≢ x → f i ≡ g i) → sum_by f list + g x ≡ sum_by g list + f x
list-one f g [] x once there each = absurd (false≢true there)
list-one f g (y ∷ list) x once there each = elim (cases_eq y x) [
  | inl here ↦ (
      let rest = list-same f g list (λ i later. each i (listed-tail i y list later) (λ same. false≢true (sym once.0 ∙ (ap (is_listed list) (here ∙ sym same) ∙ later)))) in
      let left : f y ≡ f x = ap f here in
      let right : g y ≡ g x = ap g here in
      omega (arith, left, right, rest, sum_by-cons f y list, sum_by-cons g y list)
      )
  | inr other ↦ (
      let first : f y ≡ g y = each y (listed-first y y list refl) other in
      let later : is_listed list x ≡ true = sym (listed-other x y list (λ same. other (sym same))) ∙ there in
      let rest = list-one f g list x once.1 later (λ i found. each i (listed-tail i y list found)) in
      omega (arith, first, rest, sum_by-cons f y list, sum_by-cons g y list)
      )
]

-- functions that add up to 1 at each member add up to the length
pub list-turned : (f g : ℕ → ℕ) (list : List ℕ) → ((i : ℕ) → is_listed list i ≡ true → f i + g i ≡ 1) → sum_by f list + sum_by g list ≡ length list
list-turned f g [] each = refl
list-turned f g (x ∷ list) each =
    let first : f x + g x ≡ 1 = each x (listed-first x x list refl) in
    let rest = list-turned f g list (λ i there. each i (listed-tail i x list there)) in
    omega (arith, first, rest, sum_by-cons f x list, sum_by-cons g x list)

-- Functions that agree but at the members of a list differ by these in their sums.
pub range-listed : (f g : ℕ → ℕ) (n : ℕ) (list : List ℕ) → IsRepeatFree list → All (λ i. i < n) list → ((i : ℕ) → i < n → is_listed list i ≡ false → f i ≡ g i) → sum_by f (range_with_len 0 n) + sum_by g list ≡ sum_by g (range_with_len 0 n) + sum_by f list
range-listed f g n [] once inside each =
    let same = range-same f g 0 n (λ i from below. each i (omega (arith, below)) refl) in
    let left : sum_by f [] ≡ 0 = refl in
    let right : sum_by g [] ≡ 0 = refl in
    omega (arith, same, left, right)
range-listed f g n (x ∷ list) once inside each =
    let h : ℕ → ℕ = λ i. cond (nat_eq i x) (g i) (f i) in
    let head : x < n = All-head (λ (i : ℕ). i < n) x list inside in
    let one = range-one f h 0 n x (omega arith) (omega (arith, head)) (λ i from below other. sym (ap (λ (b : Bool). cond b (g i) (f i)) (ne_eqb i x other))) in
    let at : h x ≡ g x = ap (λ (b : Bool). cond b (g x) (f x)) (eq-eqb x x refl) in
    let rest = range-listed h g n list once.1 (All-tail (λ (i : ℕ). i < n) x list inside) (λ i below missing. elim (cases_eq i x) [
      | inl same ↦ ap (λ (b : Bool). cond b (g i) (f i)) (eq-eqb i x same)
      | inr other ↦ ap (λ (b : Bool). cond b (g i) (f i)) (ne_eqb i x other) ∙ each i below (listed-other i x list other ∙ missing)
    ]) in
    let tail = list-same h f list (λ i there. ap (λ (b : Bool). cond b (g i) (f i)) (ne_eqb i x (λ same. false≢true (sym once.0 ∙ (ap (is_listed list) (sym same) ∙ there))))) in
    omega (arith, one, at, rest, tail, sum_by-cons f x list, sum_by-cons g x list)

-- where the sum is none, so is each term
pub range-none : (f : ℕ → ℕ) (start n i : ℕ) → start ≤ i → i < start + n → sum_by f (range_with_len start n) ≡ 0 → f i ≡ 0
range-none f start zero i from below none = absurd (omega (arith, from, below))
range-none f start (suc n) i from below none =
    let whole = sum_by-cons f start (range_with_len (start + 1) n) in
    elim (cases_eq start i) [
      | inl here ↦ (let same : f start ≡ f i = ap f here in omega (arith, whole, none, same))
      | inr other ↦ range-none f (start + 1) n i (omega (arith, from, other)) (omega (arith, below)) (omega (arith, whole, none))
    ]

-- a count of bits that a list is mapped to
pub count-map : (p : ℕ → Bool) (list : List ℕ) → count_by (λ bit. bit) (map p list) ≡ count_by p list
count-map p [] = refl
count-map p (x ∷ list) =
    let rest = count-map p list in
    omega (arith, rest, sum_by-cons (λ (i : ℕ). weight (p i)) x list, sum_by-cons weight (p x) (map p list))

-- a term is no more than the sum
pub range-term : (f : ℕ → ℕ) (start n i : ℕ) → start ≤ i → i < start + n → f i ≤ sum_by f (range_with_len start n)
range-term f start zero i from below = absurd (omega (arith, from, below))
range-term f start (suc n) i from below =
    let whole = sum_by-cons f start (range_with_len (start + 1) n) in
    elim (cases_eq start i) [
      | inl here ↦ (let same : f start ≡ f i = ap f here in omega (arith, whole, same))
      | inr other ↦ (let rest = range-term f (start + 1) n i (omega (arith, from, other)) (omega (arith, below)) in omega (arith, whole, rest))
    ]

pub list-term : (f : ℕ → ℕ) (list : List ℕ) (i : ℕ) → is_listed list i ≡ true → f i ≤ sum_by f list
list-term f [] i there = absurd (false≢true there)
list-term f (x ∷ list) i there =
    let whole = sum_by-cons f x list in
    elim (first-or-later i x list there) [
      | inl here ↦ (let same : f i ≡ f x = ap f here in omega (arith, whole, same))
      | inr rest ↦ (let term = list-term f list i rest in omega (arith, whole, term))
    ]
