-- Eight lanes at once: a byte of a word, and bits that are put into a byte one after the other.
use Rattle.std.proofs.Common.{◌≡◌, ◌≢◌, ℕ, zero, suc, set, w8, w64, ◌+◌, ◌*◌, ◌^◌, ◌-◌, ◌<◌, ◌≤◌, ◌/◌, ◌%◌, ◌⊎◌, min, max, Bool, true, false, None, Some, List, length, get_or, refl, sym, ap, ◌∙◌, arith, inl, inr, nat_eq, add-one}
use Rattle.std.specs.Int.{bit_at, bit_not}
use Rattle.std.specs.Int.Bits.{bit_and, bit_or}
use Rattle.std.proofs.Math.Nat.{pow-le-pow_right, pow-succ', mod-eq_of_lt}
use Rattle.std.proofs.lemmas.Bool.{cases_eq, cases_lt}
use Rattle.std.proofs.lemmas.List.{get_or-set_same, get_or-set_other}
use Rattle.std.proofs.lemmas.Nat.{mul-le, pow_pos}
use Rattle.std.proofs.lemmas.Nat.Bits.{bit_at-lt, bit_at-zero, bit_at_and, bit_at_or, bit_at_not, bit_at_ones, bit_at_ones_above, bit_at_above, bit_at_cat_low, bit_at_cat_high}
use Rattle.hz_plane.specs.Bits.{has_lane, bit_number}
use Rattle.hz_plane.specs.EightBits.{byte_has}
use Rattle.hz_plane.specs.declared.listing.Listing.{Listing}
use Rattle.hz_plane.specs.Loads.{listed_by, listed_in}

-- a byte fits at its place in a word
fits : (byte k : ℕ) → byte < 256 → k ≤ 56 → byte * 2 ^ k < 2 ^ 64
fits byte k small low =
    let bound : 2 ^ k ≤ 2 ^ 56 = pow-le-pow_right (omega arith) low in
    let most : byte * 2 ^ k ≤ 255 * 2 ^ 56 = mul-le byte (2 ^ k) 255 (2 ^ 56) (omega (arith, small)) bound in
    let room : 255 * 2 ^ 56 < 2 ^ 64 = omega arith in
    omega (arith, most, room)

-- the bits of a byte at its place
module _ (byte k i : ℕ) (small : byte < 256) (low : k ≤ 56) where
  whole : byte * 2 ^ k % 2 ^ 64 ≡ byte * 2 ^ k + 0
  whole = mod-eq_of_lt (fits byte k small low) ∙ omega arith

  placed-in : k ≤ i → bit_at (byte * 2 ^ k % 2 ^ 64) i ≡ bit_at byte (i - k)
  placed-in from = ap (λ (n : ℕ). bit_at n i) whole ∙ bit_at_cat_high byte k 0 i (pow_pos k) from

  placed-below : i < k → bit_at (byte * 2 ^ k % 2 ^ 64) i ≡ 0
  placed-below under = ap (λ (n : ℕ). bit_at n i) whole ∙ (bit_at_cat_low byte k 0 i under ∙ bit_at-zero i)

-- a word in which a byte is written
abbrev pub with-byte : ℕ → ℕ → ℕ → ℕ
with-byte word byte k = bit_or (bit_and word (bit_not w64 (255 * 2 ^ k % 2 ^ 64))) (byte * 2 ^ k % 2 ^ 64)

module _ (word byte k i : ℕ) (small : byte < 256) (low : k ≤ 56) (inside : i < 64) where
  parts : bit_at (with-byte word byte k) i ≡ max (min (bit_at word i) (1 - bit_at (255 * 2 ^ k % 2 ^ 64) i)) (bit_at (byte * 2 ^ k % 2 ^ 64) i)
  parts =
      let mask = 255 * 2 ^ k % 2 ^ 64 in
      let most : mask < 2 ^ 64 = omega arith in
      bit_at_or (bit_and word (bit_not w64 mask)) (byte * 2 ^ k % 2 ^ 64) i
      ∙ ap (λ (n : ℕ). max n (bit_at (byte * 2 ^ k % 2 ^ 64) i)) (bit_at_and word (bit_not w64 mask) i ∙ ap (min (bit_at word i)) (bit_at_not w64 mask i most inside))

  pub byte-here : k ≤ i → i < k + 8 → bit_at (with-byte word byte k) i ≡ bit_at byte (i - k)
  byte-here from to =
      let mask : bit_at (255 * 2 ^ k % 2 ^ 64) i ≡ 1 = placed-in 255 k i (omega arith) low from ∙ bit_at_ones 8 (i - k) (omega (arith, from, to)) in
      let put = placed-in byte k i small low from in
      omega (arith, parts, mask, put)

  pub byte-elsewhere : (i < k) ⊎ (k + 8 ≤ i) → bit_at (with-byte word byte k) i ≡ bit_at word i
  byte-elsewhere (inl under) =
      let mask = placed-below 255 k i (omega arith) low under in
      let put = placed-below byte k i small low under in
      omega (arith, parts, mask, put, bit_at-lt word i)
  byte-elsewhere (inr past) =
      let mask : bit_at (255 * 2 ^ k % 2 ^ 64) i ≡ 0 = placed-in 255 k i (omega arith) low (omega (arith, past)) ∙ bit_at_ones_above 8 (i - k) (omega (arith, past)) in
      let put : bit_at (byte * 2 ^ k % 2 ^ 64) i ≡ 0 = placed-in byte k i small low (omega (arith, past)) ∙ bit_at_above byte 8 (i - k) (omega (arith, small)) (omega (arith, past)) in
      omega (arith, parts, mask, put, bit_at-lt word i)

-- a word that has no bit at the place of a byte, and the byte there
abbrev pub with-joined : ℕ → ℕ → ℕ → ℕ
with-joined word byte k = bit_or word (byte * 2 ^ k % 2 ^ 64)

module _ (word byte k i : ℕ) (small : byte < 256) (low : k ≤ 56) where
  both : bit_at (with-joined word byte k) i ≡ max (bit_at word i) (bit_at (byte * 2 ^ k % 2 ^ 64) i)
  both = bit_at_or word (byte * 2 ^ k % 2 ^ 64) i

  pub joined-here : k ≤ i → bit_at word i ≡ 0 → bit_at (with-joined word byte k) i ≡ bit_at byte (i - k)
  joined-here from none = omega (arith, both, none, placed-in byte k i small low from)

  pub joined-elsewhere : (i < k) ⊎ (k + 8 ≤ i) → bit_at (with-joined word byte k) i ≡ bit_at word i
  joined-elsewhere (inl under) = omega (arith, both, placed-below byte k i small low under, bit_at-lt word i)
  joined-elsewhere (inr past) =
      let put : bit_at (byte * 2 ^ k % 2 ^ 64) i ≡ 0 = placed-in byte k i small low (omega (arith, past)) ∙ bit_at_above byte 8 (i - k) (omega (arith, small)) (omega (arith, past)) in
      omega (arith, both, put, bit_at-lt word i)

-- a word of a set is written: eight lanes, and every other lane
module _ (words : List ℕ) (eight word lane : ℕ) (is_eight : eight < 64) (long : length words ≡ 8) where
  written-here : (byte : ℕ) → lane / 8 ≡ eight → bit_at word (lane % 64) ≡ bit_at byte (lane % 64 - 8 * (eight % 8)) → has_lane (set words (eight / 8) word) lane ≡ byte_has byte (lane % 8)
  written-here byte e is =
      let at : lane / 64 ≡ eight / 8 = omega (arith, e) in
      let bit : lane % 64 - 8 * (eight % 8) ≡ lane % 8 = omega (arith, e) in
      ap (λ (n : ℕ). nat_eq n 1)
      (ap (λ (n : ℕ). bit_at (get_or (set words (eight / 8) word) n 0) (lane % 64)) at
      ∙ (ap (λ (n : ℕ). bit_at n (lane % 64)) (get_or-set_same words (eight / 8) word 0 (omega (arith, is_eight, long)))
      ∙ (is ∙ ap (bit_at byte) bit)))

  written-others : lane / 8 ≢ eight → ((lane % 64 < 8 * (eight % 8)) ⊎ (8 * (eight % 8) + 8 ≤ lane % 64) → bit_at word (lane % 64) ≡ bit_at (get_or words (eight / 8) 0) (lane % 64)) → has_lane (set words (eight / 8) word) lane ≡ has_lane words lane
  written-others apart same = ap (λ (n : ℕ). nat_eq n 1) (elim (cases_eq (lane / 64) (eight / 8)) [
    | inl e ↦ ap (λ (n : ℕ). bit_at (get_or (set words (eight / 8) word) n 0) (lane % 64)) e
        ∙ (ap (λ (n : ℕ). bit_at n (lane % 64)) (get_or-set_same words (eight / 8) word 0 (omega (arith, is_eight, long)))
        ∙ (same (elim (cases_lt (lane % 64) (8 * (eight % 8))) [
          | inl under ↦ inl under
          | inr from ↦ inr (omega (arith, from, e, apart))
        ])
        ∙ ap (λ (n : ℕ). bit_at (get_or words n 0) (lane % 64)) (sym e)))
    | inr differ ↦ ap (λ (n : ℕ). bit_at n (lane % 64)) (get_or-set_other words (eight / 8) (lane / 64) word 0 differ)
  ])

zero-bit : (bit : ℕ) → bit < 2 → nat_eq bit 1 ≡ false → bit ≡ 0
zero-bit zero low e = refl
zero-bit (suc zero) low e = cc
zero-bit (suc (suc n)) low e = absurd (omega (arith, low))

-- a set in which eight lanes have the bits of a byte
module _ (words : List ℕ) (eight byte lane : ℕ) (is_eight : eight < 64) (small : byte < 256) (long : length words ≡ 8) where
  abbrev word-of-eight : ℕ
  word-of-eight = get_or words (eight / 8) 0

  abbrev pub with-eight : List ℕ
  with-eight = set words (eight / 8) (with-byte word-of-eight byte (8 * (eight % 8)))

  abbrev pub joined-eight : List ℕ
  joined-eight = set words (eight / 8) (with-joined word-of-eight byte (8 * (eight % 8)))

  pub eight-here : lane / 8 ≡ eight → has_lane with-eight lane ≡ byte_has byte (lane % 8)
  eight-here e = written-here words eight _ lane is_eight long byte e
      (byte-here word-of-eight byte (8 * (eight % 8)) (lane % 64) small (omega arith) (omega arith) (omega (arith, e)) (omega (arith, e)))

  pub eight-others : lane / 8 ≢ eight → has_lane with-eight lane ≡ has_lane words lane
  eight-others apart = written-others words eight _ lane is_eight long apart
      (byte-elsewhere word-of-eight byte (8 * (eight % 8)) (lane % 64) small (omega arith) (omega arith))

  pub joined-eight-here : lane / 8 ≡ eight → has_lane words lane ≡ false → has_lane joined-eight lane ≡ byte_has byte (lane % 8)
  joined-eight-here e out =
      let at : lane / 64 ≡ eight / 8 = omega (arith, e) in
      let none : bit_at word-of-eight (lane % 64) ≡ 0 = ap (λ (n : ℕ). bit_at (get_or words n 0) (lane % 64)) (sym at) ∙ zero-bit (bit_at (get_or words (lane / 64) 0) (lane % 64)) (bit_at-lt _ _) out in
      written-here words eight _ lane is_eight long byte e
      (joined-here word-of-eight byte (8 * (eight % 8)) (lane % 64) small (omega arith) (omega (arith, e)) none)

  pub joined-eight-others : lane / 8 ≢ eight → has_lane joined-eight lane ≡ has_lane words lane
  joined-eight-others apart = written-others words eight _ lane is_eight long apart
      (joined-elsewhere word-of-eight byte (8 * (eight % 8)) (lane % 64) small (omega arith))

-- one bit more below the others
module _ (byte lane : ℕ) (bit : Bool) where
  doubled : 2 * byte + bit_number bit ≡ byte * 2 ^ 1 + bit_number bit
  doubled = omega arith

  small-bit : (b : Bool) → bit_number b < 2
  small-bit true = omega arith
  small-bit false = omega arith

  lowest : (b : Bool) → nat_eq (bit_at (bit_number b) 0) 1 ≡ b
  lowest true = refl
  lowest false = refl

  pub bit-below : lane ≡ 0 → byte_has (2 * byte + bit_number bit) lane ≡ bit
  bit-below e = ap (λ (n : ℕ). byte_has (2 * byte + bit_number bit) n) e
      ∙ (ap (λ (n : ℕ). byte_has n 0) doubled ∙ (ap (λ (n : ℕ). nat_eq n 1) (bit_at_cat_low byte 1 (bit_number bit) 0 (omega arith)) ∙ lowest bit))

  pub bits-above : 1 ≤ lane → byte_has (2 * byte + bit_number bit) lane ≡ byte_has byte (lane - 1)
  bits-above from = ap (λ (n : ℕ). byte_has n lane) doubled ∙ ap (λ (n : ℕ). nat_eq n 1) (bit_at_cat_high byte 1 (bit_number bit) lane (small-bit bit) from)

  -- a byte with one bit more is below the next power
  pub byte-grows : byte < 2 ^ lane → 2 * byte + bit_number bit < 2 ^ (lane + 1)
  byte-grows small =
      let next : 2 ^ (lane + 1) ≡ 2 * 2 ^ lane = ap (λ (n : ℕ). 2 ^ n) (add-one lane) ∙ pow-succ' 2 lane in
      omega (arith, small, next, small-bit bit)

-- what eight lanes list, if the lanes that list 0 are the others
flipped : (bit : ℕ) → bit < 2 → listed_by (nat_eq (1 - bit) 1) (nat_eq bit 1) ≡ Some (nat_eq bit 1)
flipped zero low = refl
flipped (suc zero) low = refl
flipped (suc (suc n)) low = absurd (omega (arith, low))

pub listed-eight : (listing : Listing) (lane place byte : ℕ) → byte < 256 → place < 8 → has_lane listing.zeros lane ≡ byte_has (bit_not w8 byte) place → has_lane listing.ones lane ≡ byte_has byte place → listed_in listing lane ≡ Some (byte_has byte place)
listed-eight listing lane place byte small inside zeros ones =
    ap (λ (b : Bool). listed_by b (has_lane listing.ones lane)) (zeros ∙ ap (λ (n : ℕ). nat_eq n 1) (bit_at_not w8 byte place (omega (arith, small)) (omega (arith, inside))))
    ∙ (ap (listed_by (nat_eq (1 - bit_at byte place) 1)) ones ∙ flipped (bit_at byte place) (bit_at-lt byte place))

-- a lane that lists none is in neither set
pub in-neither : (zero one : Bool) → listed_by zero one ≡ None → (zero ≡ false) × (one ≡ false)
in-neither true one e = cc
in-neither false true e = cc
in-neither false false e = (refl, refl)

-- a byte of one bit
pub all-bits : (place : ℕ) → place < 8 → byte_has 255 place ≡ true
all-bits place inside = ap (λ (n : ℕ). nat_eq n 1) (bit_at_ones 8 place inside)

pub no-bits : (place : ℕ) → byte_has 0 place ≡ false
no-bits place = ap (λ (n : ℕ). nat_eq n 1) (bit_at-zero place)
