-- The faults of a run text.
use Rattle.std.specs.Prelude.{◌≡◌, ℕ, ◌+◌, ◌<◌, Bool, true, false, ◌||◌, nat_lt, List, [], ◌∷◌, length, map, Option, Some, None, is_none, ◌⊎◌, option_and_then, if◌then◌else◌}
use Rattle.std.specs.List.{list_any}
use Rattle.std.specs.Option.{option_map, option_map_or}
use Rattle.hz_core.specs.Netlist.{Netlist}
use Rattle.hz_line.specs.Statement.{Numbered, PassesOn, Malformed, meaning_at}
use Rattle.hz_text.specs.declared.fault.TextFault.{TextFault}
use Rattle.hz_text.specs.declared.fault.TextFault.TheVariants as fault
use Rattle.hz_text.specs.declared.fault.Mismatch.{Mismatch}
use Rattle.hz_run_text.specs.declared.order.Place.TheVariants as at
use Rattle.hz_run_text.specs.declared.size.Size.{Size}
use Rattle.hz_run_text.specs.declared.format.Format.TheVariants.{Two}
use Rattle.hz_text.specs.Assignment.{Assigned, Nodes, Inputs, any_unknown, any_twice, any_bitless, assigns}
use Rattle.hz_text.specs.Fault.{IsLeastFaultOf, IsLeastFaultOrMemory}
use Rattle.hz_run_text.specs.RunStatement.{StatementOf, Header, Net, Start, Input, Step, run_statement_of, run_statements_of}
use Rattle.hz_run_text.specs.RunSize.{size_of, difference}
use Rattle.hz_run_text.specs.RunResolution.{ResolvedRunStatement, resolve_numbered_run}
use Rattle.hz_run_text.specs.RunOrder.{first_misplaced}
use Rattle.hz_run_text.specs.Limits.{most_steps}

-- the statements of a run text, looked up in a network
abbrev pub resolved_run_statements : Netlist → List ℕ → List (Numbered ResolvedRunStatement)
resolved_run_statements netlist text = map (resolve_numbered_run netlist) (run_statements_of text)

-- what a statement assigns
abbrev pub assignments_in : {A V : Type 0} → StatementOf A V → List A
assignments_in (Start assignments) = assignments
assignments_in (Input assignments) = assignments
assignments_in _ = []

-- the variables that a statement names
abbrev pub variables_in : {A V : Type 0} → StatementOf A V → List V
variables_in (Step variables) = variables
variables_in _ = []

-- the statement names what is not there: in the start no node, in the input no input, in a step no variable
abbrev pub names_unknown : ℕ → ResolvedRunStatement → Bool
names_unknown inputs (Start assigned) = any_unknown inputs Nodes assigned
names_unknown inputs (Input assigned) = any_unknown inputs Inputs assigned
names_unknown inputs (Step variables) = list_any is_none variables
names_unknown inputs _ = false

-- the statement is a start
abbrev pub is_start_line : {A V : Type 0} → StatementOf A V → Bool
is_start_line (Start assignments) = true
is_start_line _ = false

-- the statement is an input line
abbrev pub is_input_line : {A V : Type 0} → StatementOf A V → Bool
is_input_line (Input assignments) = true
is_input_line _ = false

-- what the first statement that passes the test assigns, if there is one
abbrev pub first_assigned : (ResolvedRunStatement → Bool) → List (Numbered ResolvedRunStatement) →
    Option (List Assigned)
first_assigned test [] = None
first_assigned test (first ∷ later) =
    if test first.statement then Some (assignments_in first.statement)
    else first_assigned test later

-- the assignments are there, and leave this one of so many nodes out
abbrev pub LeavesOut : Option (List Assigned) → ℕ → ℕ → Type 0
LeavesOut None nodes node = ⊥
LeavesOut (Some assigned) nodes node = (node < nodes) × (assigns assigned node ≡ false)

-- the first start leaves this node out, or the first input line leaves this input out
abbrev pub IsUnassigned : Netlist → List (Numbered ResolvedRunStatement) → ℕ → Type 0
IsUnassigned netlist statements node =
    LeavesOut (first_assigned is_start_line statements) (length netlist.names) node
    ⊎ LeavesOut (first_assigned is_input_line statements) netlist.inputs node

-- how many steps a statement is
abbrev pub steps_in : {A V : Type 0} → StatementOf A V → ℕ
steps_in (Step variables) = 1
steps_in _ = 0

-- the first line up to which there are more than 2,000,000 steps, or more than 2,000,000 variables in steps, if there
-- were so many before
abbrev pub beyond_from : ℕ → ℕ → List (Numbered ResolvedRunStatement) → Option ℕ
beyond_from steps variables [] = None
beyond_from steps variables (first ∷ later) =
    if nat_lt most_steps (steps + steps_in first.statement)
    || nat_lt most_steps (variables + length (variables_in first.statement))
    then Some first.line
    else beyond_from (steps + steps_in first.statement)
    (variables + length (variables_in first.statement)) later

-- the statement is the header of format 2
abbrev pub is_second : {A V : Type 0} → StatementOf A V → Bool
is_second (Header Two) = true
is_second _ = false

-- the size that a statement tells
abbrev pub size_in : {A V : Type 0} → StatementOf A V → Option Size
size_in (Net size) = Some size
size_in _ = None

-- the line of the first statement that tells the size of a network, and that size
abbrev pub first_size : List (Numbered ResolvedRunStatement) → Option (ℕ × Size)
first_size [] = None
first_size (first ∷ later) =
    option_map_or (λ size. Some (first.line, size)) (size_in first.statement) (first_size later)

-- the first count of the network's size that a text in format 2 tells wrongly, on the first line that tells the size
abbrev pub first_mismatch : Size → List (Numbered ResolvedRunStatement) → Option Mismatch
first_mismatch real [] = None
first_mismatch real (first ∷ later) =
    if is_second first.statement then option_and_then
    (λ told. option_map (λ counts. record { line = told.0; told = counts.0; real = counts.1 })
    (difference told.1 real)) (first_size (first ∷ later)) else None

-- the fault stands in the text
abbrev pub HasRunFault : Netlist → List ℕ → TextFault → Type 0
HasRunFault netlist text (fault.Form line) = meaning_at run_statement_of text line ≡ Malformed
HasRunFault netlist text (fault.Unknown line) =
    PassesOn (names_unknown netlist.inputs) (resolved_run_statements netlist text) line
HasRunFault netlist text (fault.Twice line) =
    PassesOn (λ statement. any_twice (assignments_in statement)) (run_statements_of text) line
HasRunFault netlist text (fault.Missing node) =
    IsUnassigned netlist (resolved_run_statements netlist text) node
HasRunFault netlist text (fault.Bit line) =
    PassesOn (λ statement. any_bitless (assignments_in statement))
    (resolved_run_statements netlist text) line
HasRunFault netlist text (fault.Order line) =
    first_misplaced at.Header (resolved_run_statements netlist text) ≡ Some line
HasRunFault netlist text (fault.TooMany line) =
    beyond_from 0 0 (resolved_run_statements netlist text) ≡ Some line
HasRunFault netlist text fault.Memory = ⊥
HasRunFault netlist text (fault.Mismatch line told real) =
    first_mismatch (size_of netlist) (resolved_run_statements netlist text)
    ≡ Some (record { line = line; told = told; real = real })

-- the fault stands in the text and comes before each other that does
abbrev pub IsLeastRunFault : Netlist → List ℕ → TextFault → Type 0
IsLeastRunFault netlist text fault = IsLeastFaultOf (HasRunFault netlist text) fault

-- no fault stands in the text
abbrev pub IsRunFaultless : Netlist → List ℕ → Type 0
IsRunFaultless netlist text = (fault : TextFault) → ¬ HasRunFault netlist text fault

-- the fault is the least that stands in the text; memory may always run out
abbrev pub IsRunRefusal : Netlist → List ℕ → TextFault → Type 0
IsRunRefusal netlist text fault = IsLeastFaultOrMemory (HasRunFault netlist text) fault
