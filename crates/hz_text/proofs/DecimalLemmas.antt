-- Decimal digits are read back.
use Rattle.std.proofs.Common.{◌≡◌, ◌∙◌, ℕ, zero, suc, ◌<◌, ◌≤◌, ◌^◌, true, false, ◌==◌, nat_le, List, [], ◌∷◌, Some, length, get_or, refl, ap, arith, decimal, ◌+◌, ◌*◌, ◌-◌, ◌++◌, take, drop, sym, fold, take-append-drop}
use Rattle.std.specs.List.{list_all}
use Rattle.std.proofs.lemmas.Bool.Decides.{nat_tests}
use Rattle.std.proofs.lemmas.Fmt.{decimal_is_IsNumeral, decimal_digit, first_decimal}
use Rattle.std.proofs.lemmas.Str.Parse.{IsDigitsTest, FoldsDigits, IsNumeralModel, numerals_by_fold}
use Rattle.hz_core.specs.Netlist.{is_name_byte}
use Rattle.hz_line.proofs.WrittenLemmas.{both}
use Rattle.hz_text.specs.Decimal.{is_digit, is_decimal, number_by, count_of}

-- the number that digits stand for after a number before them
abbrev pub number_after : ℕ → List ℕ → ℕ
number_after number digits = fold (λ number digit. 10 * number + (digit - 48)) number digits

number-grows : (number : ℕ) (digits : List ℕ) → number ≤ number_after number digits
number-grows number [] = omega arith
number-grows number (digit ∷ digits) = omega (arith, number-grows (10 * number + (digit - 48)) digits)

number_after-append : (number : ℕ) (front digits : List ℕ) → number_after number (front ++ digits) ≡ number_after (number_after number front) digits
number_after-append number [] digits = refl
number_after-append number (digit ∷ front) digits = number_after-append (10 * number + (digit - 48)) front digits

pub number_by-push : (digits : List ℕ) (digit : ℕ) → number_by (digits ++ digit ∷ []) ≡ 10 * number_by digits + (digit - 48)
number_by-push digits digit = number_after-append 0 digits (digit ∷ [])

-- a prefix stands for no greater number
pub number_by-take : (digits : List ℕ) (i : ℕ) → number_by (take i digits) ≤ number_by digits
number_by-take digits i =
    let whole : number_by digits ≡ number_after (number_by (take i digits)) (drop i digits) =
    ap number_by (sym (take-append-drop i digits)) ∙ number_after-append 0 (take i digits) (drop i digits) in
    omega (arith, whole, number-grows (number_by (take i digits)) (drop i digits))

digit_range : (byte : ℕ) → is_digit byte ≡ true → (48 ≤ byte) × (byte ≤ 57)
digit_range byte h = let parts = both (nat_le 48 byte) (nat_le byte 57) h in (grind (arith, nat_tests, parts.0), grind (arith, nat_tests, parts.1))

digit_in : (byte : ℕ) → 48 ≤ byte → byte ≤ 57 → is_digit byte ≡ true
digit_in byte low high =
    let a : nat_le 48 byte ≡ true = grind (arith, nat_tests, low) in
    let b : nat_le byte 57 ≡ true = grind (arith, nat_tests, high) in
    rw (a, b) refl

tells : IsDigitsTest (λ digits. list_all is_digit digits ≡ true)
tells = record {
  empty = refl;
  parts = λ c cs h. let parts = both (is_digit c) (list_all is_digit cs) h in (digit_range c parts.0, parts.1);
  more = λ c cs range h. rw (digit_in c range.0 range.1, h) refl;
}

folds : FoldsDigits number_after
folds = record { empty = λ n. refl; more = λ n c cs range. ap (λ m. number_after m cs) (omega arith) }

model : IsNumeralModel (λ digits. list_all is_digit digits ≡ true) number_by
model = numerals_by_fold (λ digits. list_all is_digit digits ≡ true) tells number_after folds

pub decimal-digits : (n : ℕ) → n < 2 ^ 64 → list_all is_digit (decimal n) ≡ true
decimal-digits n small = model.from (decimal n) (decimal_is_IsNumeral n small).0.1

-- a number is read back
pub number_by-decimal : (n : ℕ) → n < 2 ^ 64 → number_by (decimal n) ≡ n
number_by-decimal n small = let is = decimal_is_IsNumeral n small in model.same (decimal n) is.0.1 ∙ is.1

decimal-without_zero : (digits : List ℕ) → list_all is_digit digits ≡ true → 0 < length digits → 48 < get_or digits 0 0 → is_decimal digits ≡ true
decimal-without_zero [] all some first = absurd (omega (arith, some))
decimal-without_zero (digit ∷ later) all some first =
    let other : (digit == 48) ≡ false = grind (arith, nat_tests, first) in
    rw (all, other) refl

-- it has no leading zero
pub decimal-is_decimal : (n : ℕ) → 0 < n → n < 2 ^ 64 → is_decimal (decimal n) ≡ true
decimal-is_decimal n positive small = decimal-without_zero (decimal n) (decimal-digits n small) (decimal_is_IsNumeral n small).0.0 (first_decimal n positive small)

pub decimal-is_number : (n : ℕ) → n < 2 ^ 64 → is_decimal (decimal n) ≡ true
decimal-is_number zero small = ap is_decimal (decimal_digit 0 (omega arith))
decimal-is_number (suc n) small = decimal-is_decimal (suc n) (omega arith) small

-- a count is read back
pub count_of-decimal : (n : ℕ) → n ≤ 4294967295 → count_of (decimal n) ≡ Some n
count_of-decimal n few =
    let small : n < 2 ^ 64 = omega (arith, few) in
    let low : nat_le n 4294967295 ≡ true = grind (arith, nat_tests, few) in
    rw (decimal-is_number n small, number_by-decimal n small, low) refl

digit_byte : (byte : ℕ) → is_digit byte ≡ true → is_name_byte byte ≡ true
digit_byte byte h =
    let range = digit_range byte h in
    let low : nat_le 33 byte ≡ true = grind (arith, nat_tests, range) in
    let high : nat_le byte 126 ≡ true = grind (arith, nat_tests, range) in
    let a : (byte == 40) ≡ false = grind (arith, nat_tests, range) in
    let b : (byte == 41) ≡ false = grind (arith, nat_tests, range) in
    let c : (byte == 44) ≡ false = grind (arith, nat_tests, range) in
    let d : (byte == 61) ≡ false = grind (arith, nat_tests, range) in
    let e : (byte == 35) ≡ false = grind (arith, nat_tests, range) in
    rw (low, high, a, b, c, d, e) refl

-- digits may stand in a name
pub digits-name : (digits : List ℕ) → list_all is_digit digits ≡ true → list_all is_name_byte digits ≡ true
digits-name [] h = refl
digits-name (byte ∷ digits) h =
    let parts = both (is_digit byte) (list_all is_digit digits) h in
    rw (digit_byte byte parts.0, digits-name digits parts.1) refl
