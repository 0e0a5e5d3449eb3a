-- How many flips a run has, by how often it changes each variable, and the state in which it ends.
use Rattle.std.proofs.Common.{◌≡◌, ◌≢◌, ℕ, ◌+◌, ◌*◌, ◌<◌, ◌≤◌, Bool, true, false, not, cond, List, [], ◌∷◌, length, map, get_or, refl, sym, ap, ◌∙◌, subst, arith, inl, inr, eqb, sum, sum_by, ◌%◌}
use Rattle.hz_reach.proofs.Words.{range_with_len, cases_eq, sum_by-cons, sum_by-le-sum_by, length-map, get_or-map, length-range_with_len}
use Rattle.hz_reach.proofs.Words.{length-map-range_with_len, get_or-map-range_with_len, Tri, Zero, One, Unknown, is_unknown, unknown_count, bit_at}
use Rattle.hz_reach.proofs.Words.{value_at, IsKnown, IsUnknown, is_listed, IsRepeatFree, state_after, length-state_after, at-state_after, changes_in}
use Rattle.hz_reach.proofs.Words.{listed-at, sum_by-le, sum-map}
use Rattle.std.proofs.lemmas.Bool.{ne_eqb, eq-eqb}
use Rattle.std.proofs.lemmas.List.{ext_get_or}
use Rattle.std.proofs.lemmas.Grind.{get_or_default_zero}
use Rattle.std.proofs.Math.Bool.{not-not}
use Rattle.std.proofs.Math.Nat.{mul-add, mul_comm, mul-suc, mul-zero}
use Rattle.hz_gmw.proofs.Counting.{list-same, list-turned, range-listed}
use Rattle.hz_gmw.proofs.Counts.{nothing, zeros}
use Rattle.hz_reach.specs.Counts.{FlipsAreChanges, StepsAreNoMoreThanFlips, FlipsPerVariable, FlipsPerUnknown, FlipsOfSpreadRun, EndsByChanges}

-- Sums

sum-sum : (f g : ℕ → ℕ) (xs : List ℕ) → sum_by (λ x. f x + g x) xs ≡ sum_by f xs + sum_by g xs
sum-sum f g [] = refl
sum-sum f g (x ∷ xs) =
    omega (arith, sum_by-cons (λ y. f y + g y) x xs, sum_by-cons f x xs, sum_by-cons g x xs, sum-sum f g xs)

-- a sum over the places of a list
sum-places : (f : Tri → ℕ) (values : List Tri) → sum_by (λ i. f (value_at values i)) (range_with_len 0 (length values)) ≡ sum_by f values
sum-places f values =
    let at : ℕ → ℕ = λ i. f (value_at values i) in
    let same : map at (range_with_len 0 (length values)) ≡ map f values =
    ext_get_or 0 _ _ (length-map-range_with_len at 0 (length values) ∙ sym (length-map values f)) (λ i inside.
    let few : i < length values = omega (arith, inside, length-map-range_with_len at 0 (length values)) in
    get_or-map-range_with_len at 0 (length values) i i 0 few (omega arith) ∙ sym (get_or-map f values i Zero 0 few)) in
    sym (sum-map at (range_with_len 0 (length values))) ∙ (ap sum same ∙ sum-map f values)

-- whether a step changes a variable, as a number
abbrev pub listed : List ℕ → ℕ → ℕ
listed flips i = cond (is_listed flips i) 1 0

-- a step has as many flips as there are variables that it changes
length-listed : (flips : List ℕ) (n : ℕ) → IsRepeatFree flips → ((i : ℕ) → is_listed flips i ≡ true → i < n) → length flips ≡ sum_by (listed flips) (range_with_len 0 n)
length-listed flips n once inside =
    omega (
      arith,
      range-listed (listed flips) nothing n flips once
          (λ k d few. subst (λ (i : ℕ). i < n) (sym (get_or_default_zero flips k d few)) (inside (get_or flips k 0) (listed-at flips k few)))
          (λ i below out. ap (λ (b : Bool). cond b 1 0) out),
      list-turned (listed flips) nothing flips (λ i there. (let one : listed flips i ≡ 1 = ap (λ (b : Bool). cond b 1 0) there in omega (arith, one))),
      zeros (range_with_len 0 n),
      zeros flips,
    )

-- a variable changes in a step or not, and then in the later steps
pub changes-more : (flips : List ℕ) (steps : List (List ℕ)) (i : ℕ) → changes_in (flips ∷ steps) i ≡ listed flips i + changes_in steps i
changes-more flips steps i = sum_by-cons (λ (list : List ℕ). listed list i) flips steps

pub flips_are_changes : FlipsAreChanges
flips_are_changes net input start [] run = sym (zeros (range_with_len 0 (length net)))
flips_are_changes net input start (flips ∷ steps) run =
    omega (
      arith,
      sum_by-cons (λ (list : List ℕ). length list) flips steps,
      length-listed flips (length net) run.0.once run.0.inside,
      list-same (changes_in (flips ∷ steps)) (λ i. listed flips i + changes_in steps i) (range_with_len 0 (length net)) (λ i there. changes-more flips steps i),
      sum-sum (listed flips) (changes_in steps) (range_with_len 0 (length net)),
      flips_are_changes net input (state_after flips start) steps run.1,
    )

pub steps_below_flips : StepsAreNoMoreThanFlips
steps_below_flips net input start [] run = omega arith
steps_below_flips net input start (flips ∷ steps) run =
    omega (arith, sum_by-cons (λ (list : List ℕ). length list) flips steps, not-empty flips run.0.some, steps_below_flips net input (state_after flips start) steps run.1)
  where
    not-empty : (list : List ℕ) → list ≢ [] → 1 ≤ length list
    not-empty [] some = absurd (some refl)
    not-empty (x ∷ list) some = omega arith

-- at most so many flips for each variable
pub flips_per_variable : FlipsPerVariable
flips_per_variable net input start steps most run few =
    omega (
      arith,
      flips_are_changes net input start steps run,
      sum_by-le (changes_in steps) most (range_with_len 0 (length net)) (λ k d inside. few _),
      ap (λ (n : ℕ). n * most) (length-range_with_len 0 (length net)),
      mul_comm (length net) most,
    )

-- what a value allows
weight : ℕ → Tri → ℕ
weight most value = cond (is_unknown value) most 0

weight-times : (most rest : ℕ) (value : Tri) → weight most value + most * rest ≡ most * (cond (is_unknown value) 1 0 + rest)
unfolding weight
weight-times most rest Zero = omega (arith, mul-add most 0 rest, mul-zero most)
weight-times most rest One = omega (arith, mul-add most 0 rest, mul-zero most)
weight-times most rest Unknown = omega (arith, mul-add most 1 rest, mul-suc most 0, mul-zero most)

weight-sum : (most : ℕ) (values : List Tri) → sum_by (weight most) values ≡ most * unknown_count values
weight-sum most [] = sym (mul-zero most)
weight-sum most (value ∷ values) =
    let count : unknown_count (value ∷ values) ≡ cond (is_unknown value) 1 0 + unknown_count values =
    sum_by-cons (λ (each : Tri). cond (is_unknown each) 1 0) value values in
    sum_by-cons (weight most) value values
    ∙ (ap (λ (n : ℕ). weight most value + n) (weight-sum most values)
    ∙ (weight-times most (unknown_count values) value ∙ ap (λ (n : ℕ). most * n) (sym count)))

weight-changes : (most changes : ℕ) (value : Tri) → (IsKnown value → changes ≡ 0) → changes ≤ most → changes ≤ weight most value
unfolding weight
weight-changes most changes Zero known few = omega (arith, known (λ e. cc))
weight-changes most changes One known few = omega (arith, known (λ e. cc))
weight-changes most changes Unknown known few = few

-- at most so many flips for each X
pub flips_per_unknown : FlipsPerUnknown
flips_per_unknown net input start steps values most run long known few =
    omega (
      arith,
      flips_are_changes net input start steps run,
      sum_by-le-sum_by (changes_in steps) (λ i. weight most (value_at values i)) (range_with_len 0 (length net)) (λ i. weight-changes most (changes_in steps i) (value_at values i) (known i) (few i)),
      ap (λ (n : ℕ). sum_by (λ i. weight most (value_at values i)) (range_with_len 0 n)) long,
      sum-places (weight most) values,
      weight-sum most values,
    )

changes-once : (changes : ℕ) (value : Tri) → (IsKnown value → changes ≡ 0) → (IsUnknown value → changes ≡ 1) → changes ≡ weight 1 value
unfolding weight
changes-once changes Zero known unknown = known (λ e. cc)
changes-once changes One known unknown = known (λ e. cc)
changes-once changes Unknown known unknown = unknown refl

-- one flip for each X
pub flips_of_spread_run : FlipsOfSpreadRun
flips_of_spread_run net input start a steps long spread =
    omega (
      arith,
      flips_are_changes net input start steps spread.run,
      list-same (changes_in steps) (λ i. weight 1 (value_at a i)) (range_with_len 0 (length net)) (λ i there. changes-once (changes_in steps i) (value_at a i) (spread.known i) (spread.unknown i)),
      ap (λ (n : ℕ). sum_by (λ i. weight 1 (value_at a i)) (range_with_len 0 n)) long,
      sum-places (weight 1) a,
      weight-sum 1 a,
    )

-- The end of a run

-- one change more
turn-odd : (here : Bool) (changes : ℕ) (bit : Bool) →
    cond (eqb (changes % 2) 1) (not (cond here (not bit) bit)) (cond here (not bit) bit) ≡ cond (eqb ((cond here 1 0 + changes) % 2) 1) (not bit) bit
turn-odd false changes bit =
    let same : 0 + changes ≡ changes = omega arith in
    ap (λ (n : ℕ). cond (eqb (n % 2) 1) (not bit) bit) (sym same)
turn-odd true changes bit =
    elim (cases_eq (changes % 2) 1) [
      | inl odd ↦ rw (eq-eqb (changes % 2) 1 odd, ne_eqb ((1 + changes) % 2) 1 (λ e. omega (arith, e, odd))) (not-not bit)
      | inr even ↦ rw (ne_eqb (changes % 2) 1 even, eq-eqb ((1 + changes) % 2) 1 (omega (arith, even))) refl
    ]

pub ends_by_changes : EndsByChanges
ends_by_changes start [] i inside = refl
ends_by_changes start (flips ∷ steps) i inside =
    let later = ends_by_changes (state_after flips start) steps i (subst (λ (n : ℕ). i < n) (sym (length-state_after flips start)) inside) in
    later
    ∙ (ap (λ (b : Bool). cond (eqb (changes_in steps i % 2) 1) (not b) b) (at-state_after flips start i inside)
    ∙ (turn-odd (is_listed flips i) (changes_in steps i) (bit_at start i)
    ∙ ap (λ (n : ℕ). cond (eqb (n % 2) 1) (not (bit_at start i)) (bit_at start i)) (sym (changes-more flips steps i))))
