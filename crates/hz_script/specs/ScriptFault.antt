-- The faults of a script's text.
use Rattle.std.specs.Prelude.{◌≡◌, ℕ, ◌<◌, Bool, true, false, not, List, [], ◌∷◌, map, filter, slice_get, Option, Some, ◌⊎◌}
use Rattle.std.specs.Option.{option_map}
use Rattle.hz_core.specs.Netlist.{Netlist, primary_inputs}
use Rattle.hz_line.specs.Statement.{Numbered, PassesOn, Malformed, meaning_at}
use Rattle.hz_text.specs.declared.fault.TextFault.{TextFault}
use Rattle.hz_text.specs.declared.fault.TextFault.TheVariants.{Form, Unknown, Twice, Missing, Bit, Order, TooMany, Memory, Mismatch}
use Rattle.hz_text.specs.Assignment.{Allowed, Nodes, Inputs, any_unknown, any_twice, any_bitless, assigns}
use Rattle.hz_text.specs.Fault.{IsLeastFaultOf, IsLeastFaultOrMemory}
use Rattle.hz_script.specs.Statement.{Keyword, Start, Change, ScriptStatement, script_statement_of, script_statements_of}
use Rattle.hz_script.specs.Resolution.{ResolvedStatement, resolve_numbered}
use Rattle.hz_script.specs.Limits.{most_changes}

-- the statements of a script's text, looked up in a circuit
abbrev pub resolved_statements : Netlist → List ℕ → List (Numbered ResolvedStatement)
resolved_statements netlist text = map (resolve_numbered netlist) (script_statements_of text)

-- a start may assign any node, a change inputs alone
abbrev pub allowed_in : Keyword → Allowed
allowed_in Start = Nodes
allowed_in Change = Inputs

-- the statement assigns a name that is no node, or in a change no input
abbrev pub has_unknown : ℕ → ResolvedStatement → Bool
has_unknown inputs looked = any_unknown inputs (allowed_in looked.keyword) looked.assigned

-- the statement assigns a name twice
abbrev pub has_twice : ScriptStatement → Bool
has_twice statement = any_twice statement.assignments

-- the statement assigns a word that is no bit
abbrev pub has_no_bit : ResolvedStatement → Bool
has_no_bit looked = any_bitless looked.assigned

-- the keyword is that of a start
abbrev pub is_start_word : Keyword → Bool
is_start_word Start = true
is_start_word Change = false

-- the statement is a start
abbrev pub is_start : ResolvedStatement → Bool
is_start looked = is_start_word looked.keyword

-- the first statement is a start and does not assign this input, which is one of so many primary inputs
abbrev pub IsMissing : ℕ → List (Numbered ResolvedStatement) → ℕ → Type 0
IsMissing primary [] node = ⊥
IsMissing primary (first ∷ later) node =
    (is_start first.statement ≡ true) × (node < primary)
    × (assigns first.statement.assigned node ≡ false)

-- the first statement, on this line, is no start, or a later one, on this line, is; line 0 if there is no statement
abbrev pub IsOutOfOrder : List (Numbered ResolvedStatement) → ℕ → Type 0
IsOutOfOrder [] line = line ≡ 0
IsOutOfOrder (first ∷ later) line =
    PassesOn (λ looked. not (is_start looked)) (first ∷ []) line ⊎ PassesOn is_start later line

-- the line of the change 10,001, if there are so many
abbrev pub line_beyond : List (Numbered ResolvedStatement) → Option ℕ
line_beyond statements =
    option_map (λ numbered. numbered.line)
    (slice_get (filter (λ numbered. not (is_start numbered.statement)) statements) most_changes)

-- the fault stands in the text
abbrev pub HasScriptFault : Netlist → List ℕ → TextFault → Type 0
HasScriptFault netlist text (Form line) = meaning_at script_statement_of text line ≡ Malformed
HasScriptFault netlist text (Unknown line) =
    PassesOn (has_unknown netlist.inputs) (resolved_statements netlist text) line
HasScriptFault netlist text (Twice line) = PassesOn has_twice (script_statements_of text) line
HasScriptFault netlist text (Missing node) =
    IsMissing (primary_inputs netlist) (resolved_statements netlist text) node
HasScriptFault netlist text (Bit line) = PassesOn has_no_bit (resolved_statements netlist text) line
HasScriptFault netlist text (Order line) = IsOutOfOrder (resolved_statements netlist text) line
HasScriptFault netlist text (TooMany line) =
    line_beyond (resolved_statements netlist text) ≡ Some line
HasScriptFault netlist text Memory = ⊥
HasScriptFault netlist text (Mismatch line told real) = ⊥

-- the fault stands in the text and comes before each other that does
abbrev pub IsLeastScriptFault : Netlist → List ℕ → TextFault → Type 0
IsLeastScriptFault netlist text fault = IsLeastFaultOf (HasScriptFault netlist text) fault

-- no fault stands in the text
abbrev pub IsScriptFaultless : Netlist → List ℕ → Type 0
IsScriptFaultless netlist text = (fault : TextFault) → ¬ HasScriptFault netlist text fault

-- the fault is the least that stands in the text; memory may always run out
abbrev pub IsScriptRefusal : Netlist → List ℕ → TextFault → Type 0
IsScriptRefusal netlist text fault = IsLeastFaultOrMemory (HasScriptFault netlist text) fault
