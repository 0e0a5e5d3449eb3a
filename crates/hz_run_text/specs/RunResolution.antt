-- Statements of run texts whose names are looked up in a network.
use Rattle.std.specs.Prelude.{ℕ, ◌+◌, ◌-◌, ◌&&◌, nat_le, List, [], ◌∷◌, length, map, Option, Some, None, if◌then◌else◌}
use Rattle.std.specs.Option.{option_map}
use Rattle.hz_core.specs.Netlist.{Netlist, node_named, gate_at}
use Rattle.hz_net.specs.Variables.{first_wire}
use Rattle.hz_line.specs.Statement.{Numbered}
use Rattle.hz_line.specs.Token.{TokenOf}
use Rattle.hz_line.specs.declared.statements.Numbered.{Numbered as Entered}
use Rattle.hz_line.specs.Reading.{numbered_by}
use Rattle.hz_run_text.specs.declared.keyword.RunKeyword.{RunKeyword}
use Rattle.hz_run_text.specs.declared.statement.RunHeld.{RunHeld}
use Rattle.hz_run_text.specs.declared.statement.RunHeld.TheVariants as held
use Rattle.hz_text.specs.Assignment.{Assigned, assigned_of}
use Rattle.hz_run_text.specs.RunStatement.{Variable, Node, Pin, StatementOf, Header, Net, Start, Input, Run, Step, Cycle, End, RunStatement, run_statement_of, run_statement_with, variables_of_tokens}
use Rattle.hz_text.specs.Decimal.{number_by}

-- the wire into the pin with this number of the node, if the node is a gate with such a pin; pins are counted from 1
abbrev pub wire_into : Netlist → Option ℕ → ℕ → Option ℕ
wire_into netlist None pin = None
wire_into netlist (Some node) pin =
    if nat_le netlist.inputs node
    && (nat_le 1 pin && nat_le pin (length (gate_at netlist node).sources))
    then Some (first_wire netlist node + (pin - 1)) else None

-- the variable of the network that is written so, if there is one
abbrev pub variable_named : Netlist → Variable → Option ℕ
variable_named netlist (Node name) = node_named netlist name
variable_named netlist (Pin name number) =
    wire_into netlist (node_named netlist name) (number_by number)

-- a statement by its nodes and bits, and its variables
abbrev pub ResolvedRunStatement : Type 0
ResolvedRunStatement = StatementOf Assigned (Option ℕ)

-- a statement, looked up
abbrev pub resolve_run_statement : Netlist → RunStatement → ResolvedRunStatement
resolve_run_statement netlist (Header format) = Header format
resolve_run_statement netlist (Net size) = Net size
resolve_run_statement netlist (Start assignments) = Start (map (assigned_of netlist) assignments)
resolve_run_statement netlist (Input assignments) = Input (map (assigned_of netlist) assignments)
resolve_run_statement netlist Run = Run
resolve_run_statement netlist (Step variables) = Step (map (variable_named netlist) variables)
resolve_run_statement netlist Cycle = Cycle
resolve_run_statement netlist End = End

-- the same with its line
abbrev pub resolve_numbered_run : Netlist → Numbered RunStatement → Numbered ResolvedRunStatement
resolve_numbered_run netlist numbered =
    record { line = numbered.line; statement = resolve_run_statement netlist numbered.statement }

-- the statement of a token list, looked up, if it is one
abbrev pub resolve_run_tokens : Netlist → List TokenOf → Option ResolvedRunStatement
resolve_run_tokens netlist tokens =
    option_map (resolve_run_statement netlist) (run_statement_of tokens)

-- the statement of a keyword and the tokens after it, looked up
abbrev pub resolve_run_keyword : Netlist → Option RunKeyword → List TokenOf →
    Option ResolvedRunStatement
resolve_run_keyword netlist keyword rest =
    option_map (resolve_run_statement netlist) (run_statement_with keyword rest)

-- the variables that tokens are, looked up
abbrev pub variables_by : Netlist → List TokenOf → Option (List (Option ℕ))
variables_by netlist tokens = option_map (map (variable_named netlist)) (variables_of_tokens tokens)

-- what a statement that was read holds
abbrev pub run_resolution_of : RunHeld → ResolvedRunStatement
run_resolution_of (held.Header format) = Header format
run_resolution_of (held.Net size) = Net size
run_resolution_of (held.Start assigned) = Start assigned.value.items
run_resolution_of (held.Input assigned) = Input assigned.value.items
run_resolution_of held.Run = Run
run_resolution_of (held.Step variables) = Step variables.now.now
run_resolution_of (held.StepOfOne variable) = Step (variable ∷ [])
run_resolution_of held.Cycle = Cycle
run_resolution_of held.End = End

-- a statement that was read, with its line
abbrev pub RunEntry : Type 0
RunEntry = Entered RunHeld

-- the statement of an entry, with its line
abbrev pub numbered_run_resolution : RunEntry → Numbered ResolvedRunStatement
numbered_run_resolution entry = numbered_by run_resolution_of entry

-- the statements of entries
abbrev pub numbered_run_resolutions : List RunEntry → List (Numbered ResolvedRunStatement)
numbered_run_resolutions entries = map numbered_run_resolution entries
