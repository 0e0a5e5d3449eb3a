-- The faults of a script with assumptions of time.
use Rattle.std.specs.Prelude.{◌≡◌, ℕ, ◌<◌, Bool, true, false, not, ◌||◌, ◌&&◌, nat_eq, List, [], ◌∷◌, ◌++◌, map, filter, slice_get, Option, Some, None, is_none, ◌⊎◌, if◌then◌else◌}
use Rattle.std.specs.List.{list_any}
use Rattle.std.specs.Option.{option_map}
use Rattle.hz_core.specs.Netlist.{Netlist, primary_inputs}
use Rattle.hz_net.specs.Variables.{variable_kinds}
use Rattle.hz_net.specs.declared.variable.VarKind.{VarKind}
use Rattle.hz_net.specs.declared.variable.VarKind.TheVariants.{Input, Gate as GateVariable, Wire as WireVariable}
use Rattle.hz_line.specs.LeastFault.{Faults, IsLeastOfAll}
use Rattle.hz_line.specs.OrThat.{OrThat}
use Rattle.hz_line.specs.Statement.{Numbered, PassesOn, Malformed, meaning_at}
use Rattle.hz_text.specs.declared.fault.TextFault.TheVariants as text
use Rattle.hz_text.specs.Assignment.{Nodes, Inputs, any_unknown, any_twice, any_bitless, assigns}
use Rattle.hz_text.specs.Fault.{fault_number, place_of, named_line}
use Rattle.hz_script.specs.Limits.{most_changes}
use Rattle.hz_timing.specs.declared.fault.TimedFault.{TimedFault}
use Rattle.hz_timing.specs.declared.fault.TimedFault.TheVariants.{Text, Wires, Number, Again}
use Rattle.hz_timing.specs.TimedStatement.{TimedStatementOf, Ordered, Ideal, Start, Change, TimedStatement, timed_statement_of, timed_statements_of}
use Rattle.hz_timing.specs.TimedResolution.{ResolvedTimed, resolve_numbered_timed}
use Rattle.hz_timing.specs.Limits.{most_orders, most_ideals, most_starts}

-- the statements of a text, looked up in a network
abbrev pub resolved_timed_statements : Netlist → List ℕ → List (Numbered ResolvedTimed)
resolved_timed_statements netlist text = map (resolve_numbered_timed netlist) (timed_statements_of text)

-- what a statement assigns
abbrev pub timed_assignments : {A V N : Type 0} → TimedStatementOf A V N → List A
timed_assignments (Start assignments) = assignments
timed_assignments (Change assignments) = assignments
timed_assignments _ = []

-- the gate into which a variable goes, if it is a wire
abbrev pub gate_by : Option VarKind → Option ℕ
gate_by None = None
gate_by (Some (Input number)) = None
gate_by (Some (GateVariable kind)) = None
gate_by (Some (WireVariable gate pin source)) = Some gate

-- the gate into which a wire of the network goes, if the variable is there and is a wire
abbrev pub gate_into : Netlist → Option ℕ → Option ℕ
gate_into netlist None = None
gate_into netlist (Some variable) = gate_by (slice_get (variable_kinds netlist) variable)

-- both numbers are there, and are the same
abbrev pub are_same : Option ℕ → Option ℕ → Bool
are_same (Some one) (Some other) = nat_eq one other
are_same _ _ = false

-- A statement names what is not there: a start no node, a change no input, an order or a wire without delay no wire.
abbrev pub names_missing : Netlist → ResolvedTimed → Bool
names_missing netlist (Ordered first second number) =
    is_none (gate_into netlist first) || is_none (gate_into netlist second)
names_missing netlist (Ideal wire) = is_none (gate_into netlist wire)
names_missing netlist (Start assigned) = any_unknown netlist.inputs Nodes assigned
names_missing netlist (Change assigned) = any_unknown netlist.inputs Inputs assigned

-- the statement assigns a name twice
abbrev pub assigns_name_twice : TimedStatement → Bool
assigns_name_twice statement = any_twice (timed_assignments statement)

-- the statement assigns a word that is no bit
abbrev pub assigns_no_bit : ResolvedTimed → Bool
assigns_no_bit statement = any_bitless (timed_assignments statement)

-- the kinds of statements
abbrev pub is_order : {A V N : Type 0} → TimedStatementOf A V N → Bool
is_order (Ordered first second number) = true
is_order _ = false

abbrev pub is_ideal : {A V N : Type 0} → TimedStatementOf A V N → Bool
is_ideal (Ideal wire) = true
is_ideal _ = false

abbrev pub is_timed_start : {A V N : Type 0} → TimedStatementOf A V N → Bool
is_timed_start (Start assignments) = true
is_timed_start _ = false

abbrev pub is_timed_change : {A V N : Type 0} → TimedStatementOf A V N → Bool
is_timed_change (Change assignments) = true
is_timed_change _ = false

-- the statement is a start that leaves this one of so many primary inputs out
abbrev pub StartLeavesOut : ℕ → ResolvedTimed → ℕ → Type 0
StartLeavesOut primary (Start assigned) node = (node < primary) × (assigns assigned node ≡ false)
StartLeavesOut primary _ node = ⊥

-- whether a start behind this statement may be what leaves an input out: where a start may not stand again, it may behind
-- assumptions alone
abbrev pub counts_behind : Bool → ResolvedTimed → Bool
counts_behind again (Start assigned) = again
counts_behind again (Change assigned) = again
counts_behind again _ = true

-- the statements whose starts may leave an input out: all, or, where a start may not stand again, those up to the first
-- start or change
abbrev pub counted : (again : Bool) → List (Numbered ResolvedTimed) → List (Numbered ResolvedTimed)
counted again [] = []
counted again (first ∷ later) =
    first ∷ (if counts_behind again first.statement then counted again later else [])

-- some start leaves this one of so many primary inputs out
abbrev pub IsMissingInStarts : ℕ → List (Numbered ResolvedTimed) → ℕ → Type 0
IsMissingInStarts primary [] node = ⊥
IsMissingInStarts primary (first ∷ later) node =
    StartLeavesOut primary first.statement node ⊎ IsMissingInStarts primary later node

-- some of these statements is on this line, and passes a test that sees the statements before it too; these came before all
abbrev pub PassesBehind : {S : Type 0} → (List S → S → Bool) → List S → List (Numbered S) → ℕ → Type 0
PassesBehind test before [] line = ⊥
PassesBehind test before (first ∷ later) line =
    ((first.line ≡ line) × (test before first.statement ≡ true))
    ⊎ PassesBehind test (before ++ first.statement ∷ []) later line

-- behind these statements a statement is out of order: a change before any start, an assumption behind a change, a start
-- behind a start if it may not stand again
abbrev pub is_misplaced : (again : Bool) → List ResolvedTimed → ResolvedTimed → Bool
is_misplaced again before (Ordered first second number) = list_any is_timed_change before
is_misplaced again before (Ideal wire) = list_any is_timed_change before
is_misplaced again before (Start assigned) = not again && list_any is_timed_start before
is_misplaced again before (Change assigned) = not (list_any is_timed_start before)

-- some statement is a start
abbrev pub has_start : List (Numbered ResolvedTimed) → Bool
has_start statements = list_any (λ numbered. is_timed_start numbered.statement) statements

-- some statement is a start or a change
abbrev pub has_begun : List (Numbered ResolvedTimed) → Bool
has_begun statements =
    list_any (λ numbered. is_timed_start numbered.statement || is_timed_change numbered.statement) statements

-- the statement on this line is out of order; line 0 if there is neither a start nor a change
abbrev pub BreaksTimedOrder : (again : Bool) → List (Numbered ResolvedTimed) → ℕ → Type 0
BreaksTimedOrder again statements line =
    ((has_begun statements ≡ false) × (line ≡ 0))
    ⊎ PassesBehind (is_misplaced again) [] statements line

-- the line of the first statement of a kind behind so many of it, if there is one
abbrev pub line_behind : (ResolvedTimed → Bool) → ℕ → List (Numbered ResolvedTimed) → Option ℕ
line_behind kind most statements =
    option_map (λ numbered. numbered.line)
    (slice_get (filter (λ numbered. kind numbered.statement) statements) most)

-- the line of the order 1,001, of the wire without delay 257, of the start 257, or of the change 10,001
abbrev pub IsBeyondLimits : List (Numbered ResolvedTimed) → ℕ → Type 0
IsBeyondLimits statements line =
    (line_behind is_order most_orders statements ≡ Some line)
    ⊎ ((line_behind is_ideal most_ideals statements ≡ Some line)
    ⊎ ((line_behind is_timed_start most_starts statements ≡ Some line)
    ⊎ (line_behind is_timed_change most_changes statements ≡ Some line)))

-- the statement is an order whose wires are not two wires of one gate
abbrev pub is_unpaired : Netlist → ResolvedTimed → Bool
is_unpaired netlist (Ordered first second number) =
    are_same first second || not (are_same (gate_into netlist first) (gate_into netlist second))
is_unpaired netlist _ = false

-- the statement is an order whose number is no decimal one from 1 to 1000
abbrev pub lacks_number : ResolvedTimed → Bool
lacks_number (Ordered first second number) = is_none number
lacks_number _ = false

-- two statements are the same assumption
abbrev pub are_one_assumption : ResolvedTimed → ResolvedTimed → Bool
are_one_assumption (Ordered first second number) (Ordered other_first other_second other_number) =
    are_same first other_first && (are_same second other_second && are_same number other_number)
are_one_assumption (Ideal wire) (Ideal other) = are_same wire other
are_one_assumption _ _ = false

-- an assumption is stated already
abbrev pub is_stated : List ResolvedTimed → ResolvedTimed → Bool
is_stated before statement = list_any (are_one_assumption statement) before

-- the fault stands in the text, in which a start may stand again or not
abbrev pub HasTimedFault : (again : Bool) → Netlist → List ℕ → TimedFault → Type 0
HasTimedFault again netlist bytes (Text (text.Form line)) = meaning_at timed_statement_of bytes line ≡ Malformed
HasTimedFault again netlist bytes (Text (text.Unknown line)) =
    PassesOn (names_missing netlist) (resolved_timed_statements netlist bytes) line
HasTimedFault again netlist bytes (Text (text.Twice line)) = PassesOn assigns_name_twice (timed_statements_of bytes) line
HasTimedFault again netlist bytes (Text (text.Missing node)) =
    IsMissingInStarts (primary_inputs netlist) (counted again (resolved_timed_statements netlist bytes)) node
HasTimedFault again netlist bytes (Text (text.Bit line)) =
    PassesOn assigns_no_bit (resolved_timed_statements netlist bytes) line
HasTimedFault again netlist bytes (Text (text.Order line)) =
    BreaksTimedOrder again (resolved_timed_statements netlist bytes) line
HasTimedFault again netlist bytes (Text (text.TooMany line)) =
    IsBeyondLimits (resolved_timed_statements netlist bytes) line
HasTimedFault again netlist bytes (Text text.Memory) = ⊥
HasTimedFault again netlist bytes (Text (text.Mismatch line told real)) = ⊥
HasTimedFault again netlist bytes (Wires line) =
    PassesOn (is_unpaired netlist) (resolved_timed_statements netlist bytes) line
HasTimedFault again netlist bytes (Number line) =
    PassesOn lacks_number (resolved_timed_statements netlist bytes) line
HasTimedFault again netlist bytes (Again line) =
    PassesBehind is_stated [] (resolved_timed_statements netlist bytes) line

-- the fault's number: those of all texts come first
abbrev pub timed_fault_number : TimedFault → ℕ
timed_fault_number (Text fault) = fault_number fault
timed_fault_number (Wires line) = 10
timed_fault_number (Number line) = 11
timed_fault_number (Again line) = 12

-- the fault's line or node
abbrev pub timed_place_of : TimedFault → ℕ
timed_place_of (Text fault) = place_of fault
timed_place_of (Wires line) = line
timed_place_of (Number line) = line
timed_place_of (Again line) = line

-- the line that a fault names; 0 if it names none
abbrev pub timed_named_line : TimedFault → ℕ
timed_named_line (Text fault) = named_line fault
timed_named_line (Wires line) = line
timed_named_line (Number line) = line
timed_named_line (Again line) = line

-- the faults of a text, of which those stand that hold
abbrev pub timed_faults_that : (TimedFault → Type 0) → Faults TimedFault
timed_faults_that holds =
    record { stands = holds; number = timed_fault_number; line = timed_place_of }

-- of the faults that hold, this one is the least: of the least number, and of the least line or node among those
abbrev pub IsLeastTimedFaultOf : (TimedFault → Type 0) → TimedFault → Type 0
IsLeastTimedFaultOf holds fault = IsLeastOfAll (timed_faults_that holds) fault

-- the fault stands in the text and comes before each other that does
abbrev pub IsLeastTimedFault : (again : Bool) → Netlist → List ℕ → TimedFault → Type 0
IsLeastTimedFault again netlist bytes fault = IsLeastTimedFaultOf (HasTimedFault again netlist bytes) fault

-- no fault stands in the text
abbrev pub IsTimedFaultless : (again : Bool) → Netlist → List ℕ → Type 0
IsTimedFaultless again netlist bytes = (fault : TimedFault) → ¬ HasTimedFault again netlist bytes fault

-- the fault is the least that stands in the text; memory may always run out
abbrev pub IsTimedRefusal : (again : Bool) → Netlist → List ℕ → TimedFault → Type 0
IsTimedRefusal again netlist bytes fault =
    OrThat (Text text.Memory) (IsLeastTimedFault again netlist bytes) fault
