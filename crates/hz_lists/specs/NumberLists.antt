-- Lists that name each number once, and the marks of the numbers that they name.
use Rattle.std.specs.Prelude.{◌≡◌, ℕ, Bool, false, List, [], ◌∷◌, ◌++◌, slice_index_or, if◌then◌else◌}
use Rattle.hz_lists.specs.Listed.{is_listed}

-- the list with a number: it stays where it is, or comes last
abbrev pub with_number : List ℕ → ℕ → List ℕ
with_number list number = if is_listed list number then list else list ++ number ∷ []

-- just the numbers of the list are marked
abbrev pub AreMarksOf : List ℕ → List Bool → Type 0
AreMarksOf list marks = (i : ℕ) → slice_index_or marks i false ≡ is_listed list i
