-- Statements of texts of patterns whose names are looked up in a circuit.
use Rattle.std.specs.Prelude.{List, map, Option}
use Rattle.std.specs.Option.{option_map}
use Rattle.hz_core.specs.Netlist.{Netlist}
use Rattle.hz_line.specs.declared.statements.Numbered.{Numbered as Entered}
use Rattle.hz_line.specs.Reading.{numbered_by}
use Rattle.hz_line.specs.Statement.{Numbered}
use Rattle.hz_line.specs.Token.{TokenOf}
use Rattle.hz_pattern_text.specs.declared.statement.Held.{Held}
use Rattle.hz_pattern_text.specs.declared.statement.Held.TheVariants as held
use Rattle.hz_pattern_text.specs.declared.statement.Keyword.{Keyword as KeywordHere}
use Rattle.hz_pattern_text.specs.declared.statement.Keyword.TheVariants as here
use Rattle.hz_text.specs.Assignment.{Assigned, assigned_of}
use Rattle.hz_pattern_text.specs.PatternStatement.{PatternStatementOf, Hold, Pattern, PatternStatement, PatternKeyword, HoldWord, FromWord, pattern_statement_of, pattern_statement_with}

-- a statement by its nodes and bits, and its words
abbrev pub ResolvedPatternStatement : Type 0
ResolvedPatternStatement = PatternStatementOf Assigned

-- a statement, looked up
abbrev pub resolve_pattern_statement : Netlist → PatternStatement → ResolvedPatternStatement
resolve_pattern_statement netlist (Hold assignments) = Hold (map (assigned_of netlist) assignments)
resolve_pattern_statement netlist (Pattern from to) = Pattern from to

-- the same with its line
abbrev pub resolve_numbered_pattern : Netlist → Numbered PatternStatement →
    Numbered ResolvedPatternStatement
resolve_numbered_pattern netlist numbered =
    record {
      line = numbered.line;
      statement = resolve_pattern_statement netlist numbered.statement;
    }

-- the statement of a token list, looked up, if it is one
abbrev pub resolve_pattern_tokens : Netlist → List TokenOf → Option ResolvedPatternStatement
resolve_pattern_tokens netlist tokens =
    option_map (resolve_pattern_statement netlist) (pattern_statement_of tokens)

-- what a keyword is
abbrev pub pattern_keyword_by : KeywordHere → PatternKeyword
pattern_keyword_by here.Hold = HoldWord
pattern_keyword_by here.From = FromWord

-- the statement of a keyword and the tokens after it, looked up
abbrev pub resolve_pattern_keyword : Netlist → Option PatternKeyword → List TokenOf →
    Option ResolvedPatternStatement
resolve_pattern_keyword netlist keyword rest =
    option_map (resolve_pattern_statement netlist) (pattern_statement_with keyword rest)

-- what a statement that was read holds
abbrev pub pattern_resolution_of : Held → ResolvedPatternStatement
pattern_resolution_of (held.Hold assigned) = Hold assigned.items
pattern_resolution_of (held.Pattern from to) = Pattern from.now to.now

-- a statement that was read, with its line
abbrev pub PatternEntry : Type 0
PatternEntry = Entered Held

-- the statement of an entry, with its line
abbrev pub numbered_pattern_resolution : PatternEntry → Numbered ResolvedPatternStatement
numbered_pattern_resolution entry = numbered_by pattern_resolution_of entry

-- the statements of entries
abbrev pub numbered_pattern_resolutions : List PatternEntry →
    List (Numbered ResolvedPatternStatement)
numbered_pattern_resolutions entries = map numbered_pattern_resolution entries
