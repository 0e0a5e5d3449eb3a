-- What the passes over the statements of a script with assumptions of time answer.
use Rattle.std.specs.Prelude.{ℕ, ◌-◌, ◌++◌, Bool, ◌&&◌, ◌||◌, nat_eq, not, false, nat_lt, List, [], ◌∷◌, Option, Some, None, if◌then◌else◌}
use Rattle.std.specs.Option.{option_map}
use Rattle.hz_lists.specs.Least.{option_min}
use Rattle.hz_core.specs.Netlist.{Netlist, primary_inputs}
use Rattle.hz_line.specs.LeastFault.{first_found}
use Rattle.hz_line.specs.Statement.{Numbered, first_passing_line}
use Rattle.hz_text.specs.Rules.{repeats_node, least_unassigned, Rules}
use Rattle.hz_script.specs.Limits.{most_changes}
use Rattle.hz_timing.specs.declared.fault.TimedFault.{TimedFault}
use Rattle.hz_timing.specs.declared.fault.TimedFault.TheVariants.{Wires, Number, Again}
use Rattle.hz_timing.specs.TimedKeyword.{TimedKeyword}
use Rattle.hz_timing.specs.TimedKeyword as keyword
use Rattle.hz_timing.specs.TimedStatement.{Ordered, Ideal, Start, Change}
use Rattle.hz_timing.specs.TimedResolution.{ResolvedTimed}
use Rattle.hz_timing.specs.TimedFault.{timed_assignments, names_missing, assigns_no_bit, is_order, is_ideal, is_timed_start, is_timed_change, counted, has_begun, is_unpaired, lacks_number, is_stated}
use Rattle.hz_timing.specs.Limits.{most_orders, most_ideals, most_starts}

-- the statement assigns a node twice
abbrev pub names_node_twice : ResolvedTimed → Bool
names_node_twice statement = repeats_node (timed_assignments statement)

-- a number, if it is there, in place of the one that is known
abbrev pub or_known : ℕ → Option ℕ → ℕ
or_known known None = known
or_known known (Some found) = found

-- the least of so many inputs that a statement leaves out, if it is a start; that many if it leaves none out
abbrev pub left_out : ℕ → ResolvedTimed → ℕ
left_out inputs (Start assigned) = or_known inputs (least_unassigned inputs assigned)
left_out inputs _ = inputs

-- the least of so many inputs that some start leaves out; that many if none does
abbrev pub left_out_by_any : ℕ → List (Numbered ResolvedTimed) → ℕ
left_out_by_any inputs [] = inputs
left_out_by_any inputs (first ∷ later) = left_out_by_any (left_out inputs first.statement) later

-- a number, if it is below a bound
abbrev pub if_below : ℕ → ℕ → Option ℕ
if_below bound number = if nat_lt number bound then Some number else None

-- the least of so many inputs that some start leaves out, if one does
abbrev pub least_missing : ℕ → List (Numbered ResolvedTimed) → Option ℕ
least_missing inputs statements = if_below inputs (left_out_by_any inputs statements)

-- whether a statement is out of order, where a start stands before it or not, and a change stands before it or not
abbrev pub misplaced_behind : (again : Bool) → Bool → Bool → ResolvedTimed → Bool
misplaced_behind again started changed (Ordered first second number) = changed
misplaced_behind again started changed (Ideal wire) = changed
misplaced_behind again started changed (Start assigned) = not again && started
misplaced_behind again started changed (Change assigned) = not started

-- the first line out of order, where a start stands before or not, and a change stands before or not
abbrev pub misplaced_from : (again : Bool) → Bool → Bool → List (Numbered ResolvedTimed) → Option ℕ
misplaced_from again started changed [] = None
misplaced_from again started changed (first ∷ later) =
    if misplaced_behind again started changed first.statement then Some first.line
    else misplaced_from again (started || is_timed_start first.statement)
    (changed || is_timed_change first.statement) later

-- the line that breaks the order
abbrev pub first_out_of_order : (again : Bool) → List (Numbered ResolvedTimed) → Option ℕ
first_out_of_order again statements =
    if has_begun statements then misplaced_from again false false statements else Some 0

-- the statement begins with this keyword
abbrev pub is_of : TimedKeyword → ResolvedTimed → Bool
is_of keyword.Order = is_order
is_of keyword.Ideal = is_ideal
is_of keyword.Start = is_timed_start
is_of keyword.Change = is_timed_change

-- the line of the first statement of a kind behind so many more of it
abbrev pub line_from : (ResolvedTimed → Bool) → ℕ → List (Numbered ResolvedTimed) → Option ℕ
line_from kind left [] = None
line_from kind left (first ∷ later) =
    if kind first.statement && nat_eq left 0 then Some first.line
    else line_from kind (if kind first.statement then left - 1 else left) later

-- the first line that passes a limit
abbrev pub first_beyond : List (Numbered ResolvedTimed) → Option ℕ
first_beyond statements =
    option_min (line_from is_order most_orders statements)
    (option_min (line_from is_ideal most_ideals statements)
    (option_min (line_from is_timed_start most_starts statements)
    (line_from is_timed_change most_changes statements)))

-- the passes over a script with assumptions of a network, in which a start may stand again or not
abbrev pub timed_rules : (again : Bool) → Netlist → Rules ResolvedTimed
timed_rules again netlist = record {
  unknown = names_missing netlist;
  assigned = timed_assignments;
  bitless = assigns_no_bit;
  missing = λ statements. least_missing (primary_inputs netlist) (counted again statements);
  order = first_out_of_order again;
  beyond = first_beyond;
  mismatch = λ statements. None;
}

-- the line of the first statement that passes a test that sees those before it, of which these come before all
abbrev pub first_line_behind : {S : Type 0} → (List S → S → Bool) → List S → List (Numbered S) → Option ℕ
first_line_behind test before [] = None
first_line_behind test before (first ∷ later) =
    if test before first.statement then Some first.line
    else first_line_behind test (before ++ first.statement ∷ []) later

-- what the passes over assumptions answer, one for each fault
abbrev pub assumption_faults : Netlist → List (Numbered ResolvedTimed) → List (Option TimedFault)
assumption_faults netlist statements =
    option_map Wires (first_passing_line (is_unpaired netlist) statements)
    ∷ option_map Number (first_passing_line lacks_number statements)
    ∷ option_map Again (first_line_behind is_stated [] statements) ∷ []

-- the first fault of assumptions
abbrev pub first_assumption_fault : Netlist → List (Numbered ResolvedTimed) → Option TimedFault
first_assumption_fault netlist statements = first_found (assumption_faults netlist statements)
