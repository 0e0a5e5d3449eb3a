-- What the passes over a script's statements answer.
use Rattle.std.specs.Prelude.{ℕ, Bool, List, [], ◌∷◌, slice_get, Option, Some, None, if◌then◌else◌}
use Rattle.std.specs.Option.{option_map}
use Rattle.hz_line.specs.Statement.{Numbered, first_passing_line}
use Rattle.hz_text.specs.declared.fault.TextFault.{TextFault}
use Rattle.hz_script.specs.Resolution.{ResolvedStatement}
use Rattle.hz_text.specs.Rules.{repeats_node, least_unassigned, Rules, first_fault_in}
use Rattle.hz_script.specs.ScriptFault.{is_start, has_unknown, has_no_bit}

-- a node is assigned twice
abbrev pub has_node_twice : ResolvedStatement → Bool
has_node_twice looked = repeats_node looked.assigned

-- the least of so many primary inputs that a first start does not assign
abbrev pub least_missing : ℕ → List (Numbered ResolvedStatement) → Option ℕ
least_missing primary [] = None
least_missing primary (first ∷ later) =
    if is_start first.statement then least_unassigned primary first.statement.assigned else None

-- the line that breaks the order first
abbrev pub first_out_of_order : List (Numbered ResolvedStatement) → Option ℕ
first_out_of_order [] = Some 0
first_out_of_order (first ∷ later) =
    if is_start first.statement then first_passing_line is_start later else Some first.line

-- the line of the first statement past a start and 10,000 changes
abbrev pub last_beyond : List (Numbered ResolvedStatement) → Option ℕ
last_beyond statements = option_map (λ numbered. numbered.line) (slice_get statements 10001)

-- the passes over a script of a circuit with so many inputs, of which so many are primary
abbrev pub script_rules : ℕ → ℕ → Rules ResolvedStatement
script_rules inputs primary = record {
  unknown = has_unknown inputs;
  assigned = λ looked. looked.assigned;
  bitless = has_no_bit;
  missing = least_missing primary;
  order = first_out_of_order;
  beyond = last_beyond;
  mismatch = λ statements. None;
}

-- what the passes answer, one after the other
abbrev pub first_script_fault : ℕ → ℕ → List (Numbered ResolvedStatement) → Option TextFault
first_script_fault inputs primary statements =
    first_fault_in (script_rules inputs primary) statements
