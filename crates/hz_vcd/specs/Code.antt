-- The codes by which a dump names variables.
use Rattle.std.specs.Prelude.{ℕ, zero, suc, ◌+◌, List, [], ◌∷◌, map}
use Rattle.std.specs.Int.Digits.{digits_of}

-- the digits of a number in base 94, the highest first and without a leading zero; those of 0 are one zero
unfoldable pub code_digits : ℕ → List ℕ
code_digits zero = 0 ∷ []
code_digits (suc number) = digits_of 94 (suc number)

-- the code of a variable: its number in base 94, with the digit d as the byte 33 + d, so that all are printing bytes
unfoldable pub code_of : ℕ → List ℕ
code_of var = map (λ digit. 33 + digit) (code_digits var)
