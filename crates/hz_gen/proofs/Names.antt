-- The names of the circuit: a letter, or a letter and a number, and where they differ.
use Rattle.std.proofs.Common.{◌≡◌, ap, refl, ℕ, suc, ◌^◌, ◌<◌, ◌≤◌, Bool, true, false, ◌==◌, nat_le, List, [], ◌∷◌, drop, length, get_or, arith, decimal}
use Rattle.std.specs.List.{list_all}
use Rattle.std.specs.Int.{IsInRange}
use Rattle.std.specs.Str.{bytes_eq}
use Rattle.std.proofs.lemmas.Bool.Decides.{nat_tests}
use Rattle.std.proofs.lemmas.Fmt.{decimal_injective, length-decimal-le, digits_decimal}
use Rattle.std.proofs.lemmas.Slice.Eq.{bytes_eq-Decides}
use Rattle.std.proofs.lemmas.Str.Parse.{tells_by_index, numerals_by_value}
use Rattle.hz_core.specs.Netlist.{IsName, is_name_byte}
use Rattle.hz_options.specs.Numbers.{most_demo_number}

-- a digit may stand in a name
digit_byte : (byte : ℕ) → IsInRange 48 57 byte → is_name_byte byte ≡ true
digit_byte byte range =
    let low : nat_le 33 byte ≡ true = grind (arith, nat_tests, range) in
    let high : nat_le byte 126 ≡ true = grind (arith, nat_tests, range) in
    let a : (byte == 40) ≡ false = grind (arith, nat_tests, range) in
    let b : (byte == 41) ≡ false = grind (arith, nat_tests, range) in
    let c : (byte == 44) ≡ false = grind (arith, nat_tests, range) in
    let d : (byte == 61) ≡ false = grind (arith, nat_tests, range) in
    let e : (byte == 35) ≡ false = grind (arith, nat_tests, range) in
    rw (low, high, a, b, c, d, e) refl

digits_bytes :
    (bytes : List ℕ) → ((i : ℕ) → i < length bytes → IsInRange 48 57 (get_or bytes i 0)) →
    list_all is_name_byte bytes ≡ true
digits_bytes [] range = refl
digits_bytes (byte ∷ bytes) range =
    rw (digit_byte byte (range 0 (omega arith)), digits_bytes bytes (λ i below. range (suc i) (omega (arith, below)))) refl

-- digits may stand in a name
decimal-bytes : (number : ℕ) → number < 2 ^ 64 → list_all is_name_byte (decimal number) ≡ true
decimal-bytes number small =
    digits_bytes (decimal number) (digits_decimal (numerals_by_value _ tells_by_index) number small)

-- a letter and a number are a name
pub numbered-IsName :
    (letter number : ℕ) → is_name_byte letter ≡ true → number ≤ most_demo_number → IsName (letter ∷ decimal number)
numbered-IsName letter number is_letter most =
    let short : length (decimal number) ≤ 5 = length-decimal-le 5 number (omega arith) (omega arith) (omega arith) in
    record {
      some = omega arith;
      short = omega (arith, short);
      bytes = rw (is_letter, decimal-bytes number (omega arith)) refl;
    }

-- two names that are not the same differ
differs : (name other : List ℕ) → (name ≡ other → ⊥) → bytes_eq name other ≡ false
differs name other not_same = by_test (bytes_eq name other) refl
  where
    by_test : (test : Bool) → bytes_eq name other ≡ test → bytes_eq name other ≡ false
    by_test false is = is
    by_test true is = absurd (not_same ((bytes_eq-Decides name other).0 is))

-- a name is itself
pub same-name : (name : List ℕ) → bytes_eq name name ≡ true
same-name name = (bytes_eq-Decides name name).1 refl

-- a name differs from those with the same letter and a lesser number
pub earlier-differ :
    (letter number earlier : ℕ) → number ≤ most_demo_number → earlier < number →
    bytes_eq (letter ∷ decimal number) (letter ∷ decimal earlier) ≡ false
earlier-differ letter number earlier most less =
    differs (letter ∷ decimal number) (letter ∷ decimal earlier) not_same
  where
    not_same : letter ∷ decimal number ≡ letter ∷ decimal earlier → ⊥
    not_same same =
        let equal : number ≡ earlier = decimal_injective number earlier (omega arith) (omega arith) (ap (drop 1) same) in
        omega (arith, equal, less)
