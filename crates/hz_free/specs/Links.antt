-- A number or none as one number, and back.
use Rattle.std.specs.Prelude.{ℕ, Option, Some, None, nat_lt, if◌then◌else◌}

-- the code of a number or none
abbrev pub code_of : Option ℕ → ℕ
code_of None = 4294967295
code_of (Some number) = number

-- the number that a code says, if it is not that of none
abbrev pub link_of_code : ℕ → Option ℕ
link_of_code code = if nat_lt code 4294967295 then Some code else None
