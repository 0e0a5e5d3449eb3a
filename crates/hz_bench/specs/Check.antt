-- The checks of statements, and the first fault of all in the order of their numbers.
use Rattle.std.specs.Prelude.{ℕ, Bool, not, nat_lt, List, find, Option, Some, None, is_some, if◌then◌else◌}
use Rattle.std.specs.Option.{option_or}
use Rattle.std.specs.List.{list_any}
use Rattle.hz_line.specs.Statement.{Numbered}
use Rattle.hz_netlist.specs.Element.{variable_total}
use Rattle.hz_bench.specs.Definition.{definer}
use Rattle.hz_bench.specs.Netlist.{elements_of}
use Rattle.hz_bench.specs.Statement.{Statement, used_names, has_long_name, has_unknown_kind, has_wrong_pins, statement_pin_count}
use Rattle.hz_bench.specs.Text.{plain}
use Rattle.hz_bench.specs.Twice.{twice_fault}
use Rattle.hz_bench.specs.declared.fault.BenchFault.{BenchFault}
use Rattle.hz_bench.specs.declared.fault.BenchFault.TheVariants as fault
use Rattle.hz_core.specs.Limits.{most_variables}

-- the statement uses a name that none of these defines
abbrev pub uses_undefined : List (Numbered Statement) → Statement → Bool
uses_undefined statements statement =
    list_any (λ name. not (is_some (definer statements name))) (used_names statement)

-- the first statement that passes a test
abbrev pub first_that : (Statement → Bool) → List (Numbered Statement) → Option (Numbered Statement)
first_that test statements = find (λ numbered. test numbered.statement) statements

-- the fault of a statement that was found, before others
abbrev pub fault_or : (Numbered Statement → BenchFault) → Option (Numbered Statement) →
    Option BenchFault → Option BenchFault
fault_or fault None later = later
fault_or fault (Some found) later = Some (fault found)

-- more inputs, gates and pins than a circuit has
abbrev pub too_many_fault : ℕ → Option BenchFault
too_many_fault variables =
    if nat_lt most_variables variables then Some (fault.TooMany variables) else None

-- the fault of statements, none of which is malformed: the least number and, of this number, the first line
abbrev pub first_fault : List (Numbered Statement) → Option BenchFault
first_fault statements =
    fault_or (λ found. fault.Name found.line) (first_that has_long_name statements)
    (fault_or (λ found. fault.KindUnknown found.line) (first_that has_unknown_kind statements)
    (option_or (twice_fault statements)
    (fault_or (λ found. fault.Pins found.line (statement_pin_count found.statement))
    (first_that has_wrong_pins statements)
    (fault_or (λ found. fault.Undefined found.line)
    (first_that (uses_undefined statements) statements)
    (too_many_fault (variable_total (elements_of (plain statements))))))))
