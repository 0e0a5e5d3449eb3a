-- Sets of lanes: a lane more, a lane less, many at once, and no lane.
use Rattle.std.proofs.Common.{◌≡◌, ◌≢◌, ℕ, zero, suc, set, w64, ◌*◌, ◌^◌, ◌-◌, ◌<◌, ◌/◌, ◌%◌, min, max, Bool, true, false, Some, None, List, [], ◌∷◌, length, get_or, refl, sym, ap, ◌∙◌, arith, inl, inr, nat_eq}
use Rattle.std.specs.Int.{bit_at, bit_not}
use Rattle.std.specs.Int.Bits.{bit_and, bit_or, or_zero_r}
use Rattle.std.proofs.lemmas.Bool.{cases_eq}
use Rattle.std.proofs.lemmas.List.{get_or-set_same, get_or-set_other}
use Rattle.std.proofs.lemmas.Nat.Bits.{bit_at-lt, bit_at-zero, bit_at_set_same, bit_at_set_other, bit_at_clear_same, bit_at_clear_other}
use Rattle.hz_core.specs.Ternary.{admits}
use Rattle.hz_plane.specs.declared.listing.Listing.{Listing}
use Rattle.hz_plane.specs.Bits.{IsPlane, HasValue, lane_bit, bit_number, has_lane}
use Rattle.hz_plane.specs.Pairs.{AreZero, and_words, or_words, not_words}
use Rattle.hz_plane.specs.Lanes.{listed_value}
use Rattle.hz_plane.specs.Loads.{listed_by, listed_in}
use Rattle.hz_plane.proofs.Bits.{plane-not, lane-and, lane-or, lane-not}
use Rattle.hz_plane.proofs.Words.{zero-lists}

pub lane_bit-lt : (words : List ℕ) (lane : ℕ) → lane_bit words lane < 2
lane_bit-lt words lane = bit_at-lt (get_or words (lane / 64) 0) (lane % 64)

pub in-set : (bit : ℕ) → bit ≡ 1 → nat_eq bit 1 ≡ true
in-set bit e = ap (λ (n : ℕ). nat_eq n 1) e

pub out-of-set : (bit : ℕ) → bit ≡ 0 → nat_eq bit 1 ≡ false
out-of-set bit e = ap (λ (n : ℕ). nat_eq n 1) e

-- a word of a set is written: the lane itself, and every other lane
module _ (words : List ℕ) (lane : ℕ) (inside : lane < 512) (long : length words ≡ 8) where
  here : (word : ℕ) → lane_bit (set words (lane / 64) word) lane ≡ bit_at word (lane % 64)
  here word = ap (λ (n : ℕ). bit_at n (lane % 64)) (get_or-set_same words (lane / 64) word 0 (omega (arith, inside, long)))

  there : (word other : ℕ) → other ≢ lane → ((i : ℕ) → i < 64 → i ≢ lane % 64 → bit_at word i ≡ bit_at (get_or words (lane / 64) 0) i) → lane_bit (set words (lane / 64) word) other ≡ lane_bit words other
  there word other differ same =
      elim (cases_eq (other / 64) (lane / 64)) [
        | inl e ↦ (
            let apart : other % 64 ≢ lane % 64 = λ f. differ (omega (arith, e, f)) in
            ap (λ (n : ℕ). bit_at (get_or (set words (lane / 64) word) n 0) (other % 64)) e
            ∙ (ap (λ (n : ℕ). bit_at n (other % 64)) (get_or-set_same words (lane / 64) word 0 (omega (arith, inside, long)))
            ∙ (same (other % 64) (omega arith) apart ∙ ap (λ (n : ℕ). bit_at (get_or words n 0) (other % 64)) (sym e)))
            )
        | inr different ↦ ap (λ (n : ℕ). bit_at n (other % 64)) (get_or-set_other words (lane / 64) (other / 64) word 0 different)
      ]

  abbrev mask : ℕ
  mask = 1 * 2 ^ (lane % 64) % 2 ^ 64

  pub added-here : has_lane (set words (lane / 64) (bit_or (get_or words (lane / 64) 0) mask)) lane ≡ true
  added-here = in-set _ (here _ ∙ bit_at_set_same w64 (get_or words (lane / 64) 0) (lane % 64) (omega arith))

  pub added-others : (other : ℕ) → other ≢ lane → has_lane (set words (lane / 64) (bit_or (get_or words (lane / 64) 0) mask)) other ≡ has_lane words other
  added-others other differ =
      ap (λ (n : ℕ). nat_eq n 1) (there _ other differ (λ i few apart. bit_at_set_other w64 (get_or words (lane / 64) 0) (lane % 64) (omega arith) i apart))

  -- a set with the lane in it, or as it was
  abbrev pub joined : Bool → List ℕ
  joined bit = set words (lane / 64) (bit_or (get_or words (lane / 64) 0) (bit_number bit * 2 ^ (lane % 64) % 2 ^ 64))

  no-mask : bit_or (get_or words (lane / 64) 0) (0 * 2 ^ (lane % 64) % 2 ^ 64) ≡ get_or words (lane / 64) 0
  no-mask =
      let none : 0 * 2 ^ (lane % 64) % 2 ^ 64 ≡ 0 = omega arith in
      ap (bit_or (get_or words (lane / 64) 0)) none ∙ or_zero_r (get_or words (lane / 64) 0)

  pub joined-here : (bit : Bool) → has_lane words lane ≡ false → has_lane (joined bit) lane ≡ bit
  joined-here true out = added-here
  joined-here false out = ap (λ (n : ℕ). nat_eq n 1) (here _ ∙ ap (λ (n : ℕ). bit_at n (lane % 64)) no-mask) ∙ out

  pub joined-others : (bit : Bool) (other : ℕ) → other ≢ lane → has_lane (joined bit) other ≡ has_lane words other
  joined-others true other differ = added-others other differ
  joined-others false other differ = ap (λ (n : ℕ). nat_eq n 1) (there _ other differ (λ i few apart. ap (λ (n : ℕ). bit_at n i) no-mask))

  pub removed-here : has_lane (set words (lane / 64) (bit_and (get_or words (lane / 64) 0) (bit_not w64 mask))) lane ≡ false
  removed-here = out-of-set _ (here _ ∙ bit_at_clear_same w64 (get_or words (lane / 64) 0) (lane % 64) (omega arith))

  pub removed-others : (other : ℕ) → other ≢ lane → has_lane (set words (lane / 64) (bit_and (get_or words (lane / 64) 0) (bit_not w64 mask))) other ≡ has_lane words other
  removed-others other differ =
      ap (λ (n : ℕ). nat_eq n 1) (there _ other differ (λ i few apart. bit_at_clear_other w64 (get_or words (lane / 64) 0) (lane % 64) (omega arith) i few apart))

-- a bit of a set into which others are taken, and of one out of which they are taken
two-bits : (P : ℕ → ℕ → Type 0) → P 0 0 → P 0 1 → P 1 0 → P 1 1 → (bit put : ℕ) → bit < 2 → put < 2 → P bit put
two-bits P a b c d zero zero e f = a
two-bits P a b c d zero (suc zero) e f = b
two-bits P a b c d (suc zero) zero e f = c
two-bits P a b c d (suc zero) (suc zero) e f = d
two-bits P a b c d (suc (suc n)) put e f = absurd (omega (arith, e))
two-bits P a b c d zero (suc (suc n)) e f = absurd (omega (arith, f))
two-bits P a b c d (suc zero) (suc (suc n)) e f = absurd (omega (arith, f))

taken-in : (bit put : ℕ) → bit < 2 → put < 2 → nat_eq put 1 ≡ true → nat_eq (max bit put) 1 ≡ true
taken-in = two-bits (λ bit put. nat_eq put 1 ≡ true → nat_eq (max bit put) 1 ≡ true) (λ e. cc) (λ e. refl) (λ e. cc) (λ e. refl)

left-in : (bit put : ℕ) → bit < 2 → put < 2 → nat_eq put 1 ≡ false → nat_eq (max bit put) 1 ≡ nat_eq bit 1
left-in = two-bits (λ bit put. nat_eq put 1 ≡ false → nat_eq (max bit put) 1 ≡ nat_eq bit 1) (λ e. refl) (λ e. cc) (λ e. refl) (λ e. refl)

taken-out : (bit put : ℕ) → bit < 2 → put < 2 → nat_eq put 1 ≡ true → nat_eq (min bit (1 - put)) 1 ≡ false
taken-out = two-bits (λ bit put. nat_eq put 1 ≡ true → nat_eq (min bit (1 - put)) 1 ≡ false) (λ e. refl) (λ e. refl) (λ e. cc) (λ e. refl)

left-out : (bit put : ℕ) → bit < 2 → put < 2 → nat_eq put 1 ≡ false → nat_eq (min bit (1 - put)) 1 ≡ nat_eq bit 1
left-out = two-bits (λ bit put. nat_eq put 1 ≡ false → nat_eq (min bit (1 - put)) 1 ≡ nat_eq bit 1) (λ e. refl) (λ e. refl) (λ e. refl) (λ e. cc)

-- many lanes are taken into a set, or out of it
module _ (words lanes : List ℕ) (lane : ℕ) (inside : lane < 512) (one : IsPlane words) (two : IsPlane lanes) where
  pub put-here : has_lane lanes lane ≡ true → has_lane (or_words words lanes) lane ≡ true
  put-here is =
      ap (λ (n : ℕ). nat_eq n 1) (lane-or lane inside words lanes one two)
      ∙ taken-in (lane_bit words lane) (lane_bit lanes lane) (lane_bit-lt words lane) (lane_bit-lt lanes lane) is

  pub put-others : has_lane lanes lane ≡ false → has_lane (or_words words lanes) lane ≡ has_lane words lane
  put-others out =
      ap (λ (n : ℕ). nat_eq n 1) (lane-or lane inside words lanes one two)
      ∙ left-in (lane_bit words lane) (lane_bit lanes lane) (lane_bit-lt words lane) (lane_bit-lt lanes lane) out

  without : lane_bit (and_words words (not_words lanes)) lane ≡ min (lane_bit words lane) (1 - lane_bit lanes lane)
  without = lane-and lane inside words (not_words lanes) one (plane-not lanes two) ∙ ap (min (lane_bit words lane)) (lane-not lane inside lanes two)

  pub out-here : has_lane lanes lane ≡ true → has_lane (and_words words (not_words lanes)) lane ≡ false
  out-here is =
      ap (λ (n : ℕ). nat_eq n 1) without
      ∙ taken-out (lane_bit words lane) (lane_bit lanes lane) (lane_bit-lt words lane) (lane_bit-lt lanes lane) is

  pub out-others : has_lane lanes lane ≡ false → has_lane (and_words words (not_words lanes)) lane ≡ has_lane words lane
  out-others out =
      ap (λ (n : ℕ). nat_eq n 1) without
      ∙ left-out (lane_bit words lane) (lane_bit lanes lane) (lane_bit-lt words lane) (lane_bit-lt lanes lane) out

-- words that are 0 have no lane
zero-at : (words : List ℕ) (k : ℕ) → AreZero words → get_or words k 0 ≡ 0
zero-at [] k zeroes = refl
zero-at (word ∷ words) zero zeroes = zeroes.0
zero-at (word ∷ words) (suc k) zeroes = zero-at words k zeroes.1

pub empty-set : (words : List ℕ) (lane : ℕ) → AreZero words → has_lane words lane ≡ false
empty-set words lane zeroes =
    out-of-set _ (ap (λ (n : ℕ). bit_at n (lane % 64)) (zero-at words (lane / 64) zeroes) ∙ bit_at-zero (lane % 64))

-- what is listed by two sets, of which neither has a lane
pub listed-none : (listing : Listing) (lane : ℕ) → IsPlane listing.zeros → IsPlane listing.ones → AreZero (or_words listing.zeros listing.ones) → listed_in listing lane ≡ None
listed-none listing lane one two zeroes =
    let both = zero-lists listing.zeros listing.ones (one.long ∙ sym two.long) zeroes in
    let zeros : has_lane listing.zeros lane ≡ false = empty-set listing.zeros lane both.0 in
    let ones : has_lane listing.ones lane ≡ false = empty-set listing.ones lane both.1 in
    ap (λ (b : Bool). listed_by b (has_lane listing.ones lane)) zeros ∙ ap (listed_by false) ones

-- the bits of the two planes with which steps begin, by the bits of the two sets
begin-bits : (zeros ones low high : ℕ) → zeros < 2 → ones < 2 → low ≡ max zeros (1 - ones) → high ≡ 1 - zeros →
    (low ≡ bit_number (admits (listed_value (Some (listed_by (nat_eq zeros 1) (nat_eq ones 1)))) false)) × (high ≡ bit_number (admits (listed_value (Some (listed_by (nat_eq zeros 1) (nat_eq ones 1)))) true))
begin-bits zero zero low high a b e f = (e, f)
begin-bits zero (suc zero) low high a b e f = (e, f)
begin-bits (suc zero) zero low high a b e f = (e, f)
begin-bits (suc zero) (suc zero) low high a b e f = (e, f)
begin-bits (suc (suc n)) ones low high a b e f = absurd (omega (arith, a))
begin-bits zero (suc (suc n)) low high a b e f = absurd (omega (arith, b))
begin-bits (suc zero) (suc (suc n)) low high a b e f = absurd (omega (arith, b))

pub begin-value : (zeros ones : List ℕ) (lane : ℕ) → lane < 512 → IsPlane zeros → IsPlane ones →
    HasValue (record { zero = or_words zeros (not_words ones); one = not_words zeros }) lane (listed_value (Some (listed_by (has_lane zeros lane) (has_lane ones lane))))
begin-value zeros ones lane inside one two =
    let bits = begin-bits (lane_bit zeros lane) (lane_bit ones lane) _ _ (lane_bit-lt zeros lane) (lane_bit-lt ones lane)
    (lane-or lane inside zeros (not_words ones) one (plane-not ones two) ∙ ap (max (lane_bit zeros lane)) (lane-not lane inside ones two)) (lane-not lane inside zeros one) in
    record { can_be_zero = bits.0; can_be_one = bits.1 }
