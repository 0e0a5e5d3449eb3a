-- Statements of scripts whose names are looked up in a circuit.
use Rattle.std.specs.Prelude.{List, map, Option}
use Rattle.std.specs.Option.{option_map}
use Rattle.hz_core.specs.Netlist.{Netlist}
use Rattle.hz_line.specs.declared.statements.Numbered.{Numbered as Entered}
use Rattle.hz_line.specs.Reading.{numbered_by}
use Rattle.hz_line.specs.Statement.{Numbered}
use Rattle.hz_line.specs.Token.{TokenOf}
use Rattle.hz_script.specs.declared.statement.Held.{Held}
use Rattle.hz_script.specs.declared.statement.Keyword.{Keyword as KeywordHere}
use Rattle.hz_script.specs.declared.statement.Keyword.TheVariants as here
use Rattle.hz_text.specs.Assignment.{Assigned, assigned_of}
use Rattle.hz_script.specs.Statement.{Keyword, Start, Change, ScriptStatement, script_statement_of}

-- a statement by its nodes and bits
pub record ResolvedStatement : Type 0 where
  pub keyword : Keyword
  pub assigned : List Assigned

-- a statement by the nodes of its names and the bits of its words
abbrev pub resolve_statement : Netlist → ScriptStatement → ResolvedStatement
resolve_statement netlist statement =
    record {
      keyword = statement.keyword;
      assigned = map (assigned_of netlist) statement.assignments;
    }

-- the same with its line
abbrev pub resolve_numbered : Netlist → Numbered ScriptStatement → Numbered ResolvedStatement
resolve_numbered netlist numbered =
    record { line = numbered.line; statement = resolve_statement netlist numbered.statement }

-- the statement of a token list by its nodes and bits, if it is one
abbrev pub resolve_tokens : Netlist → List TokenOf → Option ResolvedStatement
resolve_tokens netlist tokens = option_map (resolve_statement netlist) (script_statement_of tokens)

-- what a keyword is
abbrev pub keyword_by : KeywordHere → Keyword
keyword_by here.Start = Start
keyword_by here.Change = Change

-- what a statement that was read holds
abbrev pub resolution_of : Held → ResolvedStatement
resolution_of held = record { keyword = keyword_by held.keyword; assigned = held.assigned.items }

-- a statement that was read, with its line
abbrev pub ScriptEntry : Type 0
ScriptEntry = Entered Held

-- the statement of an entry, with its line
abbrev pub numbered_resolution : ScriptEntry → Numbered ResolvedStatement
numbered_resolution entry = numbered_by resolution_of entry

-- the statements of entries
abbrev pub numbered_resolutions : List ScriptEntry → List (Numbered ResolvedStatement)
numbered_resolutions entries = map numbered_resolution entries
