-- The names that statements define and use, with their numbers.
use Rattle.std.specs.Prelude.{ℕ, Bool, true, false, List, [], ◌∷◌, ◌++◌, map, Option, Some, None}
use Rattle.std.specs.List.{list_all}
use Rattle.hz_line.specs.Statement.{Numbered}
use Rattle.hz_netlist.specs.declared.draft.Source.{Source}
use Rattle.hz_netlist.specs.declared.draft.Source.TheVariants as source
use Rattle.hz_netlist.specs.Names.{Names, definer_in, on_line, place_in, with_definition, with_use}
use Rattle.hz_bench.specs.Definition.{defined_names}
use Rattle.hz_bench.specs.Statement.{Statement, used_names}

-- the names that statements define, with their lines
abbrev pub definitions_of : List (Numbered Statement) → List (Numbered (List ℕ))
definitions_of [] = []
definitions_of (first ∷ rest) =
    on_line first.line (defined_names (first.statement ∷ [])) ++ definitions_of rest

-- the names that statements use, with their lines
abbrev pub uses_of : List (Numbered Statement) → List (Numbered (List ℕ))
uses_of [] = []
uses_of (first ∷ rest) = on_line first.line (used_names first.statement) ++ uses_of rest

-- names of which a line defines these
abbrev pub with_definitions : Names → ℕ → List (List ℕ) → Names
with_definitions names line [] = names
with_definitions names line (name ∷ rest) =
    with_definitions (with_definition names name line) line rest

-- names of which a line uses these
abbrev pub with_uses : Names → ℕ → List (List ℕ) → Names
with_uses names line [] = names
with_uses names line (name ∷ rest) = with_uses (with_use names name line) line rest

-- names with those of a statement
abbrev pub with_statement : Names → Numbered Statement → Names
with_statement names one =
    with_uses (with_definitions names one.line (defined_names (one.statement ∷ []))) one.line
    (used_names one.statement)

-- the first line that defines the name, if one is defined
abbrev pub definer_before : Names → Option (List ℕ) → Option ℕ
definer_before names None = None
definer_before names (Some name) = definer_in names name

-- the numbers of names, if they were seen
abbrev pub places : Names → List (List ℕ) → List (Option ℕ)
places names words = map (place_in names) words

-- numbers of names that were seen
abbrev pub told : List ℕ → List (Option ℕ)
told numbers = map Some numbers

-- the number of the name that a source reads, if it reads one
abbrev pub source_number : Source → ℕ
source_number (source.Name number) = number
source_number (source.Gate gate) = 0

-- each source reads a name
abbrev pub is_name : Source → Bool
is_name (source.Name number) = true
is_name (source.Gate gate) = false

abbrev pub are_names : List Source → Bool
are_names sources = list_all is_name sources
