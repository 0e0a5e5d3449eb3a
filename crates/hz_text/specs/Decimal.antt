-- Decimal numbers.
use Rattle.std.specs.Prelude.{ℕ, ◌-◌, ◌+◌, ◌*◌, Bool, false, not, ◌&&◌, ◌||◌, ◌==◌, nat_le, List, [], ◌∷◌, fold, length, Option, Some, None, if◌then◌else◌}
use Rattle.std.specs.List.{list_all}

-- the byte is a decimal digit
abbrev pub is_digit : ℕ → Bool
is_digit byte = nat_le 48 byte && nat_le byte 57

-- a decimal number without leading zero: digits, the first of which is 0 only if it stands alone
abbrev pub is_decimal : List ℕ → Bool
is_decimal [] = false
is_decimal (first ∷ later) =
    list_all is_digit (first ∷ later) && (not (first == 48) || length later == 0)

-- the number that digits stand for
abbrev pub number_by : List ℕ → ℕ
number_by digits = fold (λ number digit. 10 * number + (digit - 48)) 0 digits

-- the number that a word is: a decimal one without leading zero, at most 4,294,967,295
abbrev pub count_of : List ℕ → Option ℕ
count_of word =
    if is_decimal word && nat_le (number_by word) 4294967295 then Some (number_by word) else None
