-- What a list of numbers names, and lists that name nothing twice. That a list names a number is a Bool and not std's `Contains`,
-- since definitions compute with it: a step turns the bits that it names.
use Rattle.std.specs.Prelude.{◌≡◌, ℕ, Bool, false, List, [], ◌∷◌, nat_eq}
use Rattle.std.specs.List.{list_any}

-- whether a list names a number
abbrev pub is_listed : List ℕ → ℕ → Bool
is_listed list i = list_any (nat_eq i) list

-- a list names no number twice
abbrev pub IsRepeatFree : List ℕ → Type 0
IsRepeatFree [] = Unit {0}
IsRepeatFree (i ∷ list) = (is_listed list i ≡ false) × IsRepeatFree list
