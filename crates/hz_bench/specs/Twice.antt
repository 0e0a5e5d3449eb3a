-- Names that are defined twice.
use Rattle.std.specs.Prelude.{ℕ, List, [], ◌∷◌, ◌++◌, Option, Some, None}
use Rattle.hz_line.specs.Statement.{Numbered}
use Rattle.hz_bench.specs.declared.fault.BenchFault.{BenchFault}
use Rattle.hz_bench.specs.declared.fault.BenchFault.TheVariants.{Twice}
use Rattle.hz_bench.specs.Statement.{Statement, defined_name}
use Rattle.hz_bench.specs.Definition.{definer}

-- the fault of a line whose name has this earlier line, before one of later lines
abbrev pub twice_or : ℕ → Option ℕ → Option BenchFault → Option BenchFault
twice_or line None later = later
twice_or line (Some first) later = Some (Twice line first)

-- the earlier line of the name that is defined, if one is
abbrev pub earlier_line : List (Numbered Statement) → Option (List ℕ) → Option ℕ
earlier_line seen None = None
earlier_line seen (Some name) = definer seen name

-- the first statement that defines a name which an earlier one defines, if these came before
abbrev pub twice_after : List (Numbered Statement) → List (Numbered Statement) → Option BenchFault
twice_after seen [] = None
twice_after seen (first ∷ rest) =
    twice_or first.line (earlier_line seen (defined_name first.statement))
    (twice_after (seen ++ first ∷ []) rest)

-- the first statement that defines a name which an earlier one defines
abbrev pub twice_fault : List (Numbered Statement) → Option BenchFault
twice_fault statements = twice_after [] statements
