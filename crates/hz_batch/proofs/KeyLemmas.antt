-- Every fourth bit of four words side by side, and what the keys that they make say.
use Rattle.std.proofs.Common.{◌≡◌, ◌≢◌, ◌∙◌, ap, refl, sym, subst, ℕ, zero, suc, ◌+◌, ◌-◌, ◌*◌, ◌/◌, ◌%◌, ◌^◌, ◌<◌, ◌≤◌, min, max, List, [], ◌∷◌, ◌++◌, length, length-append, set, get_or, inl, inr, arith}
use Rattle.std.specs.Prelude.{◌⊎◌}
use Rattle.std.specs.Int.{bit_at}
use Rattle.std.specs.Int.Bits.{bit_and, bit_or}
use Rattle.std.proofs.Math.Nat.{div-div-eq-div-mul}
use Rattle.std.proofs.lemmas.Bool.{cases_eq, cases_lt}
use Rattle.std.proofs.lemmas.List.{get_or_at, get_or_append_left, get_or-set_same, get_or-set_other}
use Rattle.std.proofs.lemmas.Nat.{pow-add, pow_pos}
use Rattle.std.proofs.lemmas.Nat.Bits.{bit_at-lt, bit_at-zero, bit_at_and, bit_at_or, bit_at_above, bit_at_cat_low, bit_at_cat_high}
use Rattle.hz_core.specs.declared.tri.Tri.{Tri}
use Rattle.hz_core.specs.declared.tri.Tri.TheVariants.{Zero}
use Rattle.hz_plane.specs.Bits.{lane_bit}
use Rattle.hz_plane.specs.declared.values.LaneValues.{LaneValues}
use Rattle.hz_plane.specs.View.{value_in}
use Rattle.hz_batch.specs.Keys.{AreJoined, SaysBoth, IsTable, key_in, key_place, pair_by, value_of_bits}

-- which of four
pub each_of_four : (P : ℕ → Type 0) → P 0 → P 1 → P 2 → P 3 → (nth : ℕ) → nth < 4 → P nth
each_of_four P a b c d nth below = by_zero (cases_eq nth 0)
  where
    by_two : (nth ≡ 2) ⊎ (nth ≢ 2) → nth ≢ 0 → nth ≢ 1 → P nth
    by_two (inl e) n m = subst P (sym e) c
    by_two (inr o) n m = let is : nth ≡ 3 = omega (arith, below, n, m, o) in subst P (sym is) d

    by_one : (nth ≡ 1) ⊎ (nth ≢ 1) → nth ≢ 0 → P nth
    by_one (inl e) n = subst P (sym e) b
    by_one (inr o) n = by_two (cases_eq nth 2) n o

    by_zero : (nth ≡ 0) ⊎ (nth ≢ 0) → P nth
    by_zero (inl e) = subst P (sym e) a
    by_zero (inr o) = by_one (cases_eq nth 1) o

-- the lowest four bits of a number
low_bit : (n nth : ℕ) → nth < 4 → bit_at (n % 16) nth ≡ bit_at n nth
low_bit n nth below = each_of_four (λ k. bit_at (n % 16) k ≡ bit_at n k) (omega arith) (omega arith) (omega arith) (omega arith) nth below

-- the bits of a word from one on
pub shifted : (n s at : ℕ) → bit_at (n / 2 ^ s) at ≡ bit_at n (s + at)
shifted n s at = ap (λ (m : ℕ). m % 2) (div-div-eq-div-mul n (2 ^ s) (2 ^ at) ∙ ap (λ (m : ℕ). n / m) (sym (pow-add 2 s at)))

-- a number each fourth bit of which is set
fourths_of : ℕ → ℕ
fourths_of zero = 0
fourths_of (suc n) = fourths_of n * 2 ^ 4 + 1

fourth_bit : (n i : ℕ) → i < 4 * n → bit_at (fourths_of n) i ≡ bit_at 1 (i % 4)
unfolding fourths_of
fourth_bit zero i below = absurd (omega (arith, below))
fourth_bit (suc n) i below = elim (cases_lt i 4) [
  | inl low ↦ (
      let same : i ≡ i % 4 = omega (arith, low) in
      bit_at_cat_low (fourths_of n) 4 1 i low ∙ ap (bit_at 1) same
      )
  | inr high ↦ (
      let same : (i - 4) % 4 ≡ i % 4 = omega (arith, high) in
      bit_at_cat_high (fourths_of n) 4 1 i (omega arith) high ∙ (fourth_bit n (i - 4) (omega (arith, high, below)) ∙ ap (bit_at 1) same)
      )
]

abbrev fourths : ℕ
fourths = 1229782938247303441

whole : fourths ≡ fourths_of 16
unfolding fourths_of
whole = refl

part_bit : (x i : ℕ) → i < 64 → bit_at (bit_and x fourths) i ≡ min (bit_at x i) (bit_at 1 (i % 4))
part_bit x i below =
    bit_at_and x fourths i ∙ ap (min (bit_at x i)) (ap (λ (n : ℕ). bit_at n i) whole ∙ fourth_bit 16 i (omega (arith, below)))

part_in : (x i : ℕ) → i < 64 → i % 4 ≡ 0 → bit_at (bit_and x fourths) i ≡ bit_at x i
part_in x i below e =
    let one : bit_at 1 (i % 4) ≡ 1 = ap (bit_at 1) e in
    omega (arith, part_bit x i below, one, bit_at-lt x i)

part_out : (x i : ℕ) → i < 64 → i % 4 ≢ 0 → bit_at (bit_and x fourths) i ≡ 0
part_out x i below off =
    let none : bit_at 1 (i % 4) ≡ 0 = bit_at_above 1 1 (i % 4) (omega arith) (omega (arith, off)) in
    omega (arith, part_bit x i below, none)

-- a bit of a word that drops what is above it
in_word : (n i : ℕ) → i < 64 → bit_at (n % 2 ^ 64) i ≡ bit_at n i
in_word n i below =
    let whole : n / 2 ^ 64 * 2 ^ 64 + n % 2 ^ 64 ≡ n = omega arith in
    sym (bit_at_cat_low (n / 2 ^ 64) 64 (n % 2 ^ 64) i below) ∙ ap (λ (m : ℕ). bit_at m i) whole

abbrev moved : ℕ → ℕ → ℕ
moved x k = bit_and x fourths * 2 ^ k % 2 ^ 64

module _ (x k i : ℕ) (below : i < 64) where
  moved_high : k ≤ i → bit_at (moved x k) i ≡ bit_at (bit_and x fourths) (i - k)
  moved_high from =
      let more : bit_and x fourths * 2 ^ k ≡ bit_and x fourths * 2 ^ k + 0 = omega arith in
      in_word (bit_and x fourths * 2 ^ k) i below ∙ ap (λ (n : ℕ). bit_at n i) more ∙ bit_at_cat_high (bit_and x fourths) k 0 i (pow_pos k) from

  moved_low : i < k → bit_at (moved x k) i ≡ 0
  moved_low under =
      let more : bit_and x fourths * 2 ^ k ≡ bit_and x fourths * 2 ^ k + 0 = omega arith in
      in_word (bit_and x fourths * 2 ^ k) i below ∙ ap (λ (n : ℕ). bit_at n i) more ∙ (bit_at_cat_low (bit_and x fourths) k 0 i under ∙ bit_at-zero i)

  moved_in : k ≤ i → (i - k) % 4 ≡ 0 → bit_at (moved x k) i ≡ bit_at x (i - k)
  moved_in from e = moved_high from ∙ part_in x (i - k) (omega (arith, below)) e

  moved_out : k < 4 → i % 4 ≢ k → bit_at (moved x k) i ≡ 0
  moved_out few off = elim (cases_lt i k) [
    | inl under ↦ moved_low under
    | inr from ↦ moved_high from ∙ part_out x (i - k) (omega (arith, below)) (omega (arith, few, off, from))
  ]

-- the four words side by side
module _ (a b c d : ℕ) where
  abbrev pub side_by_side : ℕ
  side_by_side = bit_or (bit_or (bit_or (moved a 3) (moved b 2)) (moved c 1)) (bit_and d fourths)

  each_bit : (i : ℕ) → bit_at side_by_side i ≡ max (max (max (bit_at (moved a 3) i) (bit_at (moved b 2) i)) (bit_at (moved c 1) i)) (bit_at (bit_and d fourths) i)
  each_bit i =
      bit_at_or (bit_or (bit_or (moved a 3) (moved b 2)) (moved c 1)) (bit_and d fourths) i
      ∙ ap (λ (n : ℕ). max n (bit_at (bit_and d fourths) i)) (bit_at_or (bit_or (moved a 3) (moved b 2)) (moved c 1) i
      ∙ ap (λ (n : ℕ). max n (bit_at (moved c 1) i)) (bit_at_or (moved a 3) (moved b 2) i))

  pub are_joined : AreJoined a b c d side_by_side
  are_joined at below four =
      let third : at + 3 - 3 ≡ at = omega arith in
      let second : at + 2 - 2 ≡ at = omega arith in
      let first : at + 1 - 1 ≡ at = omega arith in
      let in3 : at + 3 < 64 = omega (arith, below, four) in
      let in2 : at + 2 < 64 = omega (arith, below, four) in
      let in1 : at + 1 < 64 = omega (arith, below, four) in (
        omega (
          arith,
          each_bit (at + 3),
          moved_in a 3 (at + 3) in3 (omega arith) (omega (arith, four)) ∙ ap (bit_at a) third,
          moved_out b 2 (at + 3) in3 (omega arith) (omega (arith, four)),
          moved_out c 1 (at + 3) in3 (omega arith) (omega (arith, four)),
          part_out d (at + 3) in3 (omega (arith, four)),
        ),
        omega (
          arith,
          each_bit (at + 2),
          moved_out a 3 (at + 2) in2 (omega arith) (omega (arith, four)),
          moved_in b 2 (at + 2) in2 (omega arith) (omega (arith, four)) ∙ ap (bit_at b) second,
          moved_out c 1 (at + 2) in2 (omega arith) (omega (arith, four)),
          part_out d (at + 2) in2 (omega (arith, four)),
        ),
        omega (
          arith,
          each_bit (at + 1),
          moved_out a 3 (at + 1) in1 (omega arith) (omega (arith, four)),
          moved_out b 2 (at + 1) in1 (omega arith) (omega (arith, four)),
          moved_in c 1 (at + 1) in1 (omega arith) (omega (arith, four)) ∙ ap (bit_at c) first,
          part_out d (at + 1) in1 (omega (arith, four)),
        ),
        omega (
          arith,
          each_bit at,
          moved_out a 3 at below (omega arith) (omega (arith, four)),
          moved_out b 2 at below (omega arith) (omega (arith, four)),
          moved_out c 1 at below (omega arith) (omega (arith, four)),
          part_in d at below four,
        ),
      )

-- every fourth bit of the words of both values, from one on
abbrev pub JoinedFrom : (first second : LaneValues) (begin k word : ℕ) → Type 0
JoinedFrom first second begin k word =
    AreJoined (get_or first.zero k 0 / 2 ^ begin) (get_or first.one k 0 / 2 ^ begin) (get_or second.zero k 0 / 2 ^ begin) (get_or second.one k 0 / 2 ^ begin) word

pub joined-next : (first second : LaneValues) (begin at : ℕ) (words : List ℕ) (new : ℕ) → at < length words → ((k : ℕ) → k < at → JoinedFrom first second begin k (get_or words k 0)) → JoinedFrom first second begin at new →
    (k : ℕ) → k < at + 1 → JoinedFrom first second begin k (get_or (set words at new) k 0)
joined-next first second begin at words new inside before here k few = by_place (cases_eq k at)
  where
    by_place : (k ≡ at) ⊎ (k ≢ at) → JoinedFrom first second begin k (get_or (set words at new) k 0)
    by_place (inl e) =
        subst (λ (n : ℕ). JoinedFrom first second begin n (get_or (set words at new) n 0)) (sym e)
        (subst (λ (word : ℕ). JoinedFrom first second begin at word) (sym (get_or-set_same words at new 0 inside)) here)
    by_place (inr other) =
        subst (λ (word : ℕ). JoinedFrom first second begin k word) (sym (get_or-set_other words at k new 0 other)) (before k (omega (arith, few, other)))

-- words that are joined from one lane on say both values of every fourth lane
pub says-joined : (first second : LaneValues) (words : List ℕ) (begin lane : ℕ) → lane < 512 → lane % 4 ≡ begin →
    ((k : ℕ) → k < 8 → JoinedFrom first second begin k (get_or words k 0)) →
    SaysBoth first second words lane
says-joined first second words begin lane inside from joined =
    let k = lane / 64 in
    let bits = joined k (omega (arith, inside)) (key_place lane) (omega arith) (omega arith) in
    let place : begin + key_place lane ≡ lane % 64 = omega (arith, from) in
    let at : (list : List ℕ) → bit_at (get_or list k 0 / 2 ^ begin) (key_place lane) ≡ lane_bit list lane =
    λ list. shifted (get_or list k 0) begin (key_place lane) ∙ ap (bit_at (get_or list k 0)) place in
    (bits.0 ∙ at first.zero, bits.1 ∙ at first.one, bits.2 ∙ at second.zero, bits.3 ∙ at second.one)

-- what is looked up by the key of a lane
pub looked-up : (table : List (Tri × Tri)) (keys : List (List ℕ)) (first second : LaneValues) (lane : ℕ) → IsTable table → SaysBoth first second (get_or keys (lane % 4) []) lane →
    get_or table (key_in keys lane) (Zero, Zero) ≡ (value_in first lane, value_in second lane)
looked-up table keys first second lane is says =
    let word = get_or (get_or keys (lane % 4) []) (lane / 64) 0 in
    let place = key_place lane in
    let bit : (nth : ℕ) → nth < 4 → bit_at (key_in keys lane) nth ≡ bit_at word (place + nth) = λ nth few. low_bit (word / 2 ^ place) nth few ∙ shifted word place nth in
    let last : place + 0 ≡ place = omega arith in
    let one : value_of_bits (bit_at (key_in keys lane) 3) (bit_at (key_in keys lane) 2) ≡ value_in first lane =
    rw (bit 3 (omega arith) ∙ says.0, bit 2 (omega arith) ∙ says.1) refl in
    let two : value_of_bits (bit_at (key_in keys lane) 1) (bit_at (key_in keys lane) 0) ≡ value_in second lane =
    rw (bit 1 (omega arith) ∙ says.2, bit 0 (omega arith) ∙ ap (bit_at word) last ∙ says.3) refl in
    is.rows (key_in keys lane) (omega arith) ∙ rw (one, two) refl

-- the values that the keys so far say
pub record IsTableBelow (end : ℕ) (table : List (Tri × Tri)) : Type 0 where
  pub long : length table ≡ end
  pub rows : (key : ℕ) → key < end → get_or table key (Zero, Zero) ≡ pair_by key

pub table-next : (table now : List (Tri × Tri)) (key : ℕ) (pair : Tri × Tri) → now ≡ table ++ pair ∷ [] → pair ≡ pair_by key → IsTableBelow key table → IsTableBelow (key + 1) now
table-next table now key pair more is before = rw more (record {
  long = length-append table (pair ∷ []) ∙ ap (λ (n : ℕ). n + 1) before.long;
  rows = λ k few. by_place k few (cases_eq k key);
})
  where
    by_place : (k : ℕ) → k < key + 1 → (k ≡ key) ⊎ (k ≢ key) → get_or (table ++ pair ∷ []) k (Zero, Zero) ≡ pair_by k
    by_place k few (inl e) = rw e (get_or_at table pair [] (Zero, Zero) key before.long ∙ is)
    by_place k few (inr other) =
        let below : k < key = omega (arith, few, other) in
        get_or_append_left table (pair ∷ []) (Zero, Zero) k (omega (arith, below, before.long)) ∙ before.rows k below
