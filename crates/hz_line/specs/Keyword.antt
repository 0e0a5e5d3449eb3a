-- Keywords, read in any letter case.
use Rattle.std.specs.Prelude.{ℕ, Bool, List}
use Rattle.std.specs.Str.{str_eq_ignore_ascii_case}

-- the word is the keyword but for the case of its letters
abbrev pub is_keyword : List ℕ → List ℕ → Bool
is_keyword word keyword = str_eq_ignore_ascii_case word keyword
