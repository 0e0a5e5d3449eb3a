-- Which line defines a name.
use Rattle.std.specs.Prelude.{ℕ, Bool, false, List, [], ◌∷◌, Option, Some, None}
use Rattle.std.specs.Str.{bytes_eq}
use Rattle.hz_line.specs.Statement.{Numbered, first_passing_line}
use Rattle.hz_bench.specs.Statement.{Statement, Input, Output, FlipFlop, Gate, defined_name}

-- the name is the one that is defined, if one is
abbrev pub is_that : List ℕ → Option (List ℕ) → Bool
is_that name None = false
is_that name (Some defined) = bytes_eq defined name

-- the statement defines the name
abbrev pub defines : List ℕ → Statement → Bool
defines name statement = is_that name (defined_name statement)

-- the line of the first statement that defines the name
abbrev pub definer : List (Numbered Statement) → List ℕ → Option ℕ
definer statements name = first_passing_line (defines name) statements

-- the names that statements define, in order
abbrev pub defined_names : List Statement → List (List ℕ)
defined_names [] = []
defined_names (Input name ∷ rest) = name ∷ defined_names rest
defined_names (Output name ∷ rest) = defined_names rest
defined_names (FlipFlop name sources ∷ rest) = name ∷ defined_names rest
defined_names (Gate name kind sources ∷ rest) = name ∷ defined_names rest
