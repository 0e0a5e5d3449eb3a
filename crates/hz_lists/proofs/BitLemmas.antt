-- Bits in words of 64: one bit is set or cleared, and the first and the last bit of a word.
use Rattle.std.proofs.Common.{◌≡◌, ◌≢◌, ◌∙◌, ℕ, suc, ◌+◌, ◌*◌, ◌/◌, ◌%◌, ◌^◌, ◌<◌, ◌≤◌, List, length, get_or, set, replicate, inl, inr, ap, arith, w64, length-set, get_or-set_same, get_or-set_other}
use Rattle.std.specs.Int.{bit_at, trailing_zeros, leading_zeros}
use Rattle.std.proofs.Math.Nat.{div-eq_of_lt-le}
use Rattle.std.proofs.lemmas.Bool.{cases_eq, cases_lt}
use Rattle.std.proofs.lemmas.List.{get_or-replicate, length-replicate, get_or_past}
use Rattle.std.proofs.lemmas.Nat.{leading_top}
use Rattle.std.proofs.lemmas.Nat.Bits.{bit_at-zero, bit_at-trailing_zeros, bit_at_above}
use Rattle.hz_lists.specs.Bits.{slot_bit, IsTurned, IsLowestIn, IsHighestIn, Summarises}

-- a word without a bit has none at any place
pub no-slot : (words : List ℕ) (place : ℕ) → get_or words (place / 64) 0 ≡ 0 → slot_bit words place ≡ 0
no-slot words place none = ap (λ word. bit_at word (place % 64)) none ∙ bit_at-zero (place % 64)

-- words without a bit
abbrev pub no_words : ℕ → List ℕ
no_words count = replicate count 0

pub zero-at : (count place : ℕ) → get_or (no_words count) place 0 ≡ 0
zero-at count place = elim (cases_lt place count) [
  | inl inside ↦ get_or-replicate count place 0 0 inside
  | inr past ↦ get_or_past (no_words count) place 0 (omega (arith, past, length-replicate {A = ℕ} count 0))
]

pub no-slots : (count place : ℕ) → slot_bit (no_words count) place ≡ 0
no-slots count place = no-slot (no_words count) place (zero-at count (place / 64))

module _ (words : List ℕ) (place word bit : ℕ) (within : place / 64 < length words) where
  -- a word in which one bit may be another
  pub turned : bit_at word (place % 64) ≡ bit → ((i : ℕ) → i < 64 → i ≢ place % 64 → bit_at word i ≡ bit_at (get_or words (place / 64) 0) i) → IsTurned words (set words (place / 64) word) place bit
  turned here kept = record {
    long = length-set words (place / 64) word;
    here = ap (λ n. bit_at n (place % 64)) (get_or-set_same words (place / 64) word 0 within) ∙ here;
    others = λ other differs.
        elim (cases_eq (other / 64) (place / 64)) [
          | inl same ↦ rw (same, get_or-set_same words (place / 64) word 0 within) (kept (other % 64) (omega arith) (λ index. differs (omega (arith, same, index))))
          | inr apart ↦ ap (λ n. bit_at n (other % 64)) (get_or-set_other words (place / 64) (other / 64) word 0 apart)
        ];
    apart = λ at differs. get_or-set_other words (place / 64) at word 0 differs;
  }

module _ (words : List ℕ) (word : ℕ) (some : 0 < get_or words word 0) (fits : get_or words word 0 < 2 ^ 64) where
  pub lowest : IsLowestIn words word (64 * word + trailing_zeros w64 (get_or words word 0))
  lowest =
      let zeros = trailing_zeros w64 (get_or words word 0) in
      let is = bit_at-trailing_zeros w64 (get_or words word 0) some fits in
      let at : (64 * word + zeros) / 64 ≡ word = omega (arith, is.0) in
      let index : (64 * word + zeros) % 64 ≡ zeros = omega (arith, is.0) in
      record {
        inside = at;
        set = rw (at, index) is.1;
        lowest = λ other here before. rw here (is.2 (other % 64) (omega (arith, here, before, is.0)));
      }

  -- the last bit of a number: the number is at least that power of 2, and less than the next
  last-bit : (place : ℕ) → 2 ^ place ≤ get_or words word 0 → get_or words word 0 < 2 ^ suc place → bit_at (get_or words word 0) place ≡ 1
  last-bit place above below =
      ap (λ n. n % 2) (div-eq_of_lt-le {k = 1} (2 ^ place) {m = get_or words word 0} (omega (arith, above)) (omega (arith, below)))

  pub highest : (place : ℕ) → place + leading_zeros w64 (get_or words word 0) ≡ 64 * word + 63 → IsHighestIn words word place
  highest place is_place =
      let top = leading_top 64 (get_or words word 0) some fits in
      let here : place ≡ 64 * word + top.0 = omega (arith, is_place, top.1) in
      let at : place / 64 ≡ word = omega (arith, here, top.1) in
      let index : place % 64 ≡ top.0 = omega (arith, here, top.1) in
      record {
        inside = at;
        set = rw (at, index) (last-bit top.0 top.2 top.3);
        highest = λ other in_word after.
            rw in_word (bit_at_above (get_or words word 0) (suc top.0) (other % 64) top.3 (omega (arith, in_word, after, here)));
      }

module _ (upper lower lower_after : List ℕ) (place bit : ℕ) (sums : Summarises upper lower) (is_turned : IsTurned lower lower_after place bit) where
  -- the bit of a word is set with a bit in it
  pub Summarises-set : (upper_after : List ℕ) → bit ≡ 1 → IsTurned upper upper_after (place / 64) 1 → Summarises upper_after lower_after
  Summarises-set upper_after one above word =
      elim (cases_eq word (place / 64)) [
        | inl same ↦ (
          λ none. absurd (omega (arith, above.here, rw same at none)),
          λ none. absurd (omega (arith, one, is_turned.here, no-slot lower_after place (rw same at none))),
        )
        | inr apart ↦ rw (above.others word apart, is_turned.apart word apart) (sums word)
      ]

  -- the bit of a word is cleared with the last bit in it
  pub Summarises-clear : (upper_after : List ℕ) → get_or lower_after (place / 64) 0 ≡ 0 → IsTurned upper upper_after (place / 64) 0 → Summarises upper_after lower_after
  Summarises-clear upper_after empty above word =
      elim (cases_eq word (place / 64)) [
        | inl same ↦ (λ none. rw same empty, λ none. rw same above.here)
        | inr apart ↦ rw (above.others word apart, is_turned.apart word apart) (sums word)
      ]

  -- a word keeps its bit while it has one
  pub Summarises-kept : (get_or lower (place / 64) 0 ≡ 0 → get_or lower_after (place / 64) 0 ≡ 0) → get_or lower_after (place / 64) 0 ≢ 0 → Summarises upper lower_after
  Summarises-kept stays some word =
      elim (cases_eq word (place / 64)) [
        | inl same ↦ (
          λ none. absurd (some (stays ((sums (place / 64)).0 (rw same at none)))),
          λ none. absurd (some (rw same at none)),
        )
        | inr apart ↦ rw (is_turned.apart word apart) (sums word)
      ]

-- the first place whose bit is set, and the last one
pub record IsFirstSlot (words : List ℕ) (place : ℕ) : Type 0 where
  pub set : slot_bit words place ≡ 1
  pub before : (other : ℕ) → other < place → slot_bit words other ≡ 0

pub record IsLastSlot (words : List ℕ) (place : ℕ) : Type 0 where
  pub set : slot_bit words place ≡ 1
  pub after : (other : ℕ) → place < other → slot_bit words other ≡ 0

-- the first word that has a bit has the first bit
pub first-below : (upper lower : List ℕ) → Summarises upper lower → (word place : ℕ) → IsFirstSlot upper word → IsLowestIn lower word place → IsFirstSlot lower place
first-below upper lower sums word place first low = record {
  set = low.set;
  before = λ other less.
      elim (cases_eq (other / 64) word) [
        | inl same ↦ low.lowest other same less
        | inr apart ↦ no-slot lower other ((sums (other / 64)).0 (first.before (other / 64) (omega (arith, less, low.inside, apart))))
      ];
}

pub last-below : (upper lower : List ℕ) → Summarises upper lower → (word place : ℕ) → IsLastSlot upper word → IsHighestIn lower word place → IsLastSlot lower place
last-below upper lower sums word place last high = record {
  set = high.set;
  after = λ other more.
      elim (cases_eq (other / 64) word) [
        | inl same ↦ high.highest other same more
        | inr apart ↦ no-slot lower other ((sums (other / 64)).0 (last.after (other / 64) (omega (arith, more, high.inside, apart))))
      ];
}
