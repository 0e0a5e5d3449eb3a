-- Statements of scripts with assumptions of time whose names are looked up in a network.
use Rattle.std.specs.Prelude.{ℕ, ◌&&◌, nat_le, List, map, Option, Some, None, if◌then◌else◌}
use Rattle.std.specs.Option.{option_map}
use Rattle.hz_core.specs.Netlist.{Netlist}
use Rattle.hz_line.specs.Statement.{Numbered}
use Rattle.hz_line.specs.Token.{TokenOf}
use Rattle.hz_line.specs.declared.statements.Numbered.{Numbered as Entered}
use Rattle.hz_line.specs.Reading.{numbered_by}
use Rattle.hz_text.specs.Assignment.{Assigned, assigned_of}
use Rattle.hz_text.specs.Decimal.{is_decimal, number_by}
use Rattle.hz_run_text.specs.RunResolution.{variable_named}
use Rattle.hz_timing.specs.declared.keyword.TimedKeyword.{TimedKeyword as KeywordHere}
use Rattle.hz_timing.specs.declared.keyword.TimedKeyword.TheVariants as here
use Rattle.hz_timing.specs.declared.statement.TimedHeld.{TimedHeld}
use Rattle.hz_timing.specs.declared.statement.TimedHeld.TheVariants as held
use Rattle.hz_timing.specs.TimedKeyword.{TimedKeyword}
use Rattle.hz_timing.specs.TimedKeyword as keyword
use Rattle.hz_timing.specs.TimedStatement.{TimedStatementOf, Ordered, Ideal, Start, Change, TimedStatement, timed_statement_of, timed_statement_with}
use Rattle.hz_timing.specs.Limits.{most_nth}

-- a number from 1 to 1000
abbrev pub nth_by : ℕ → Option ℕ
nth_by number = if nat_le 1 number && nat_le number most_nth then Some number else None

-- the number of a change that a word is: a decimal one from 1 to 1000
abbrev pub nth_of : List ℕ → Option ℕ
nth_of word = if is_decimal word then nth_by (number_by word) else None

-- the number of an order, which is 1 if its word is left out
abbrev pub order_number : Option (List ℕ) → Option ℕ
order_number None = Some 1
order_number (Some word) = nth_of word

-- a statement by its nodes and bits, its variables and its number
abbrev pub ResolvedTimed : Type 0
ResolvedTimed = TimedStatementOf Assigned (Option ℕ) (Option ℕ)

-- a statement, looked up
abbrev pub resolve_timed : Netlist → TimedStatement → ResolvedTimed
resolve_timed netlist (Ordered first second number) =
    Ordered (variable_named netlist first) (variable_named netlist second) (order_number number)
resolve_timed netlist (Ideal wire) = Ideal (variable_named netlist wire)
resolve_timed netlist (Start assignments) = Start (map (assigned_of netlist) assignments)
resolve_timed netlist (Change assignments) = Change (map (assigned_of netlist) assignments)

-- the same with its line
abbrev pub resolve_numbered_timed : Netlist → Numbered TimedStatement → Numbered ResolvedTimed
resolve_numbered_timed netlist numbered =
    record { line = numbered.line; statement = resolve_timed netlist numbered.statement }

-- the statement of a token list, looked up, if it is one
abbrev pub resolve_timed_tokens : Netlist → List TokenOf → Option ResolvedTimed
resolve_timed_tokens netlist tokens =
    option_map (resolve_timed netlist) (timed_statement_of tokens)

-- the statement of a keyword and the tokens after it, looked up
abbrev pub resolve_timed_keyword : Netlist → Option TimedKeyword → List TokenOf → Option ResolvedTimed
resolve_timed_keyword netlist keyword rest =
    option_map (resolve_timed netlist) (timed_statement_with keyword rest)

-- what a keyword is
abbrev pub timed_keyword_by : KeywordHere → TimedKeyword
timed_keyword_by here.Order = keyword.Order
timed_keyword_by here.Ideal = keyword.Ideal
timed_keyword_by here.Start = keyword.Start
timed_keyword_by here.Change = keyword.Change

-- what a statement that was read holds
abbrev pub timed_resolution_of : TimedHeld → ResolvedTimed
timed_resolution_of (held.Order first second number) = Ordered first second number
timed_resolution_of (held.Ideal wire) = Ideal wire
timed_resolution_of (held.Start assigned) = Start assigned.items
timed_resolution_of (held.Change assigned) = Change assigned.items

-- a statement that was read, with its line
abbrev pub TimedEntry : Type 0
TimedEntry = Entered TimedHeld

-- the statement of an entry, with its line
abbrev pub numbered_timed_resolution : TimedEntry → Numbered ResolvedTimed
numbered_timed_resolution entry = numbered_by timed_resolution_of entry

-- the statements of entries
abbrev pub numbered_timed_resolutions : List TimedEntry → List (Numbered ResolvedTimed)
numbered_timed_resolutions entries = map numbered_timed_resolution entries
