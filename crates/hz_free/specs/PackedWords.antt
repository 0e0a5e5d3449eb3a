-- A word or none as one number, and back.
use Rattle.std.specs.Prelude.{ℕ, ◌+◌, ◌*◌, ◌/◌, ◌%◌, Bool, Option, Some, None, nat_eq, nat_lt, if◌then◌else◌}
use Rattle.hz_word.specs.declared.count.Count.{Count}
use Rattle.hz_word.specs.declared.count.Count.TheVariants.{Exact, Many}
use Rattle.hz_word.specs.declared.word.Word.{Word}

-- the number of a first letter
abbrev pub letter_code : Bool → ℕ
letter_code first = if first then 1 else 0

-- the code of a word with this first letter and that number of changes
abbrev pub count_code : Bool → Count → ℕ
count_code first (Exact changes) = changes * 2 + letter_code first
count_code first Many = 2000002 + letter_code first

-- the code of a word or none; no cap is so great that two have the same
abbrev pub code_of : Option Word → ℕ
code_of None = 2000004
code_of (Some word) = count_code word.first word.changes

-- the first letter of the word that a code says
abbrev pub first_in : ℕ → Bool
first_in code = nat_eq (code % 2) 1

-- the word that a code says, if it is not that of none
abbrev pub word_of_code : ℕ → Option Word
word_of_code code =
    if nat_lt code 2000002 then Some (record { first = first_in code; changes = Exact (code / 2) })
    else (if nat_lt code 2000004 then Some (record { first = first_in code; changes = Many })
    else None)
