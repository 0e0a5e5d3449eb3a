-- Bits in bytes, and back.
use Rattle.std.proofs.Common.{◌≡◌, ◌≢◌, ◌∙◌, sym, ap, refl, ℕ, zero, suc, ◌+◌, ◌*◌, ◌/◌, ◌%◌, ◌^◌, ◌<◌, ◌≤◌, Bool, true, false, List, [], ◌∷◌, ◌++◌, length, take, drop, get_or, nat_eq, arith}
use Rattle.std.specs.Int.{bit_at}
use Rattle.std.proofs.lemmas.Nat.Bits.{bit_at_lowest, bit_at-suc, bit_at-zero}
use Rattle.std.proofs.lemmas.Nat.{pow_pos}
use Rattle.std.proofs.lemmas.List.{append-nil, append_assoc, get_or-drop, get_or-take, length-append}
use Rattle.std.proofs.lemmas.List.FromFn.{get_or-map-range_with_len, fill_by_all, length-map-range_with_len}
use Rattle.std.proofs.lemmas.Bool.Decides.{same_from_decides}
use Rattle.std.proofs.lemmas.Slice.Eq.{bytes_eq-Decides}
use Rattle.std.specs.Cmp.{unsigned_Decides}
use Rattle.std.specs.Str.{bytes_eq}
use Rattle.hz_states.specs.Key.{same_state-Decides}
use Rattle.hz_states.specs.States.{same_state}
use Rattle.hz_states.specs.Packing.{bit_of, byte_at, byte_of, digit, packed, unpacked}

-- a byte of so many bits is below that power of two
pub byte-bound : (bits : List Bool) (count : ℕ) → length bits ≤ count → byte_of bits < 2 ^ count
byte-bound [] count few = pow_pos count
byte-bound (bit ∷ bits) zero few = absurd (omega (arith, few))
byte-bound (true ∷ bits) (suc count) few = omega (arith, byte-bound bits count (omega (arith, few)))
byte-bound (false ∷ bits) (suc count) few = omega (arith, byte-bound bits count (omega (arith, few)))

-- the first bit of a byte, and the others
first-bit : (bit : Bool) (rest : ℕ) → nat_eq (bit_at (digit bit + 2 * rest) 0) 1 ≡ bit
first-bit true rest = let odd : (1 + 2 * rest) % 2 ≡ 1 = omega arith in ap (λ (last : ℕ). nat_eq last 1) (bit_at_lowest (1 + 2 * rest) ∙ odd)
first-bit false rest = let even : (0 + 2 * rest) % 2 ≡ 0 = omega arith in ap (λ (last : ℕ). nat_eq last 1) (bit_at_lowest (0 + 2 * rest) ∙ even)

later-bit : (bit : Bool) (rest place : ℕ) → bit_at (digit bit + 2 * rest) (suc place) ≡ bit_at rest place
later-bit true rest place = let half : (1 + 2 * rest) / 2 ≡ rest = omega arith in bit_at-suc (1 + 2 * rest) place ∙ ap (λ (left : ℕ). bit_at left place) half
later-bit false rest place = let half : (0 + 2 * rest) / 2 ≡ rest = omega arith in bit_at-suc (0 + 2 * rest) place ∙ ap (λ (left : ℕ). bit_at left place) half

-- the bits of a byte are those that it was made of
pub byte-bit : (bits : List Bool) (place : ℕ) → nat_eq (bit_at (byte_of bits) place) 1 ≡ get_or bits place false
byte-bit [] place = ap (λ (bit : ℕ). nat_eq bit 1) (bit_at-zero place)
byte-bit (bit ∷ bits) zero = first-bit bit (byte_of bits)
byte-bit (bit ∷ bits) (suc place) = ap (λ (other : ℕ). nat_eq other 1) (later-bit bit (byte_of bits) place) ∙ byte-bit bits place

-- the bit at a place of a list that was packed
pub packed-bit : (bits : List Bool) (place : ℕ) → place < length bits → bit_of (packed bits) place ≡ get_or bits place false
packed-bit bits place inside =
    let whole : 8 * (place / 8) + place % 8 ≡ place = omega arith in
    ap (λ (byte : ℕ). nat_eq (bit_at byte (place % 8)) 1)
    (get_or-map-range_with_len (byte_at bits) 0 ((length bits + 7) / 8) (place / 8) (place / 8) 0 (omega (arith, inside)) (omega arith))
    ∙ byte-bit (take 8 (drop (8 * (place / 8)) bits)) (place % 8)
    ∙ get_or-take 8 (drop (8 * (place / 8)) bits) (place % 8) false (omega arith)
    ∙ get_or-drop (8 * (place / 8)) bits (place % 8) false
    ∙ ap (λ (at : ℕ). get_or bits at false) whole

-- what was packed reads back
packed-back : (bits : List Bool) → unpacked (length bits) (packed bits) ≡ bits
packed-back bits = sym (fill_by_all (bit_of (packed bits)) bits (length bits) false refl (λ place inside. sym (packed-bit bits place inside)))

pub packed_read : (bits : List Bool) (bytes : List ℕ) → bytes ≡ packed bits → unpacked (length bits) bytes ≡ bits
packed_read bits bytes are = ap (unpacked (length bits)) are ∙ packed-back bits

pub packed_kept : (bits : List Bool) (bytes : List ℕ) → bytes ≡ packed bits → bytes ≡ packed (unpacked (length bits) bytes)
packed_kept bits bytes are = are ∙ ap packed (sym (packed_read bits bytes are))

-- the byte has all bits but those of the rest, which stand before them
pub record IsGathered (rest bits : List Bool) (byte : ℕ) : Type 0 where
  pub done : List Bool
  pub whole : bits ≡ rest ++ done
  pub is : byte ≡ byte_of done

pub gathered-none : (rest bits : List Bool) → rest ≡ bits → IsGathered rest bits 0
gathered-none rest bits same = record { done = []; whole = sym same ∙ sym (append-nil rest); is = refl }

module _ (rest front bits : List Bool) (bit : Bool) (byte : ℕ) (gathered : IsGathered rest bits byte) (cut : rest ≡ front ++ bit ∷ []) where
  -- one bit more
  pub gathered-more : IsGathered front bits (2 * byte + digit bit)
  gathered-more = record {
    done = bit ∷ gathered.done;
    whole = gathered.whole ∙ ap (λ (rest : List Bool). rest ++ gathered.done) cut ∙ append_assoc front (bit ∷ []) gathered.done;
    is = by bit;
  }
    where
      by : (bit : Bool) → 2 * byte + digit bit ≡ byte_of (bit ∷ gathered.done)
      by true = omega (arith, gathered.is)
      by false = omega (arith, gathered.is)

  -- there is room for one bit more
  pub gathered-room : length bits ≤ 8 → byte < 128
  gathered-room few = rw gathered.is (byte-bound gathered.done 7 (omega (arith, few, ap length gathered.whole, ap length cut, length-append rest gathered.done, length-append front (bit ∷ []))))

pub gathered-all : (rest bits : List Bool) (byte : ℕ) → IsGathered rest bits byte → length rest ≡ 0 → byte ≡ byte_of bits
gathered-all [] bits byte gathered none = gathered.is ∙ sym (ap byte_of gathered.whole)
gathered-all (bit ∷ rest) bits byte gathered none = absurd (omega (arith, none))

pub digit-small : (bit : Bool) → digit bit ≤ 1
digit-small true = omega arith
digit-small false = omega arith

-- how many bits are read back
pub unpacked-long : (count : ℕ) (bytes : List ℕ) → length (unpacked count bytes) ≡ count
unpacked-long count bytes = length-map-range_with_len (bit_of bytes) 0 count

-- two states, by how many bits they have and by their bytes
module _ (count other_count : ℕ) (bytes other_bytes : List ℕ) (kept : bytes ≡ packed (unpacked count bytes)) (other_kept : other_bytes ≡ packed (unpacked other_count other_bytes)) where
  -- as many bits are the same exactly if the bytes are
  pub same-bytes : count ≡ other_count → bytes_eq bytes other_bytes ≡ same_state (unpacked count bytes) (unpacked other_count other_bytes)
  same-bytes same_count =
      same_from_decides (bytes_eq bytes other_bytes) (same_state (unpacked count bytes) (unpacked other_count other_bytes)) (
        λ same. ap (λ (n : ℕ). unpacked n bytes) same_count ∙ ap (unpacked other_count) ((bytes_eq-Decides bytes other_bytes).0 same),
        λ same. (bytes_eq-Decides bytes other_bytes).1 (kept ∙ ap packed same ∙ sym other_kept),
      )
      (same_state-Decides (unpacked count bytes) (unpacked other_count other_bytes))

  -- more bits are others
  pub other-count : count ≢ other_count → nat_eq count other_count ≡ same_state (unpacked count bytes) (unpacked other_count other_bytes)
  other-count apart =
      same_from_decides (nat_eq count other_count) (same_state (unpacked count bytes) (unpacked other_count other_bytes)) (
        λ same. absurd (apart ((unsigned_Decides count other_count).0 same)),
        λ same. (unsigned_Decides count other_count).1 (sym (unpacked-long count bytes) ∙ ap length same ∙ unpacked-long other_count other_bytes),
      )
      (same_state-Decides (unpacked count bytes) (unpacked other_count other_bytes))

-- each bit stands in a byte
pub bit-inside : (count : ℕ) (bytes : List ℕ) (state : List Bool) (place : ℕ) → bytes ≡ packed (unpacked count bytes) → unpacked count bytes ≡ state → place < length state → place < 8 * length bytes
bit-inside count bytes state place kept are inside =
    omega (arith, inside, ap length are, ap length kept, unpacked-long count bytes, length-map-range_with_len (byte_at (unpacked count bytes)) 0 ((length (unpacked count bytes) + 7) / 8))

-- all bits are written
pub read-all : (count : ℕ) (bytes : List ℕ) (state bits : List Bool) → unpacked count bytes ≡ state → length bits ≡ length state → ((place : ℕ) → place < length state → get_or bits place false ≡ bit_of bytes place) → bits ≡ state
read-all count bytes state bits are long each =
    let counted : length state ≡ count = sym (ap length are) ∙ unpacked-long count bytes in
    fill_by_all (bit_of bytes) bits count false (long ∙ counted) (λ place inside. each place (omega (arith, inside, counted))) ∙ are
