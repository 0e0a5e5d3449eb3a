-- The statements of scripts with assumptions of time.
use Rattle.std.specs.Prelude.{ℕ, List, [], ◌∷◌, codes, Option, Some, None, if◌then◌else◌}
use Rattle.std.specs.Option.{option_map}
use Rattle.hz_line.specs.Keyword.{is_keyword}
use Rattle.hz_line.specs.Statement.{Numbered, numbered_statements}
use Rattle.hz_line.specs.Token.{TokenOf, WordOf}
use Rattle.hz_text.specs.Assignment.{Assignment, assignments_of}
use Rattle.hz_run_text.specs.RunStatement.{Variable, Node, variables_of_tokens}
use Rattle.hz_timing.specs.TimedKeyword.{TimedKeyword}
use Rattle.hz_timing.specs.TimedKeyword as keyword

-- A statement over what assignments, variables and numbers are: an order, by its wires and the number of the change of
-- the second one; a wire without delay; a start; a change.
pub data TimedStatementOf (A V N : Type 0) : Type 0 where
  Ordered : (first second : V) (number : N) → TimedStatementOf A V N
  Ideal : (wire : V) → TimedStatementOf A V N
  Start : (assignments : List A) → TimedStatementOf A V N
  Change : (assignments : List A) → TimedStatementOf A V N

-- a statement as it is written: the number of an order is a word, if it is not left out
abbrev pub TimedStatement : Type 0
TimedStatement = TimedStatementOf Assignment Variable (Option (List ℕ))

-- the keyword that a word is, in any letter case
unfoldable pub timed_keyword_of : List ℕ → Option TimedKeyword
timed_keyword_of word =
    if is_keyword word (codes "order") then Some keyword.Order
    else (if is_keyword word (codes "ideal") then Some keyword.Ideal
    else (if is_keyword word (codes "start") then Some keyword.Start
    else (if is_keyword word (codes "change") then Some keyword.Change else None)))

-- the word of an order's number, by what stands behind the two wires: it is left out, or a word that reads as a node's name
abbrev pub number_word : List Variable → Option (Option (List ℕ))
number_word [] = Some None
number_word (Node word ∷ []) = Some (Some word)
number_word _ = None

-- the order that variables are: two, and perhaps a word
abbrev pub ordered_by : List Variable → Option TimedStatement
ordered_by (first ∷ second ∷ rest) = option_map (Ordered first second) (number_word rest)
ordered_by _ = None

-- the wire without delay that variables are: one
abbrev pub ideal_by : List Variable → Option TimedStatement
ideal_by (wire ∷ []) = Some (Ideal wire)
ideal_by _ = None

-- what is made of variables, if they are there
abbrev pub by_variables : {X : Type 0} → (List Variable → Option X) → Option (List Variable) → Option X
by_variables make None = None
by_variables make (Some variables) = make variables

-- the statement of a keyword and the tokens after it
abbrev pub timed_statement_with : Option TimedKeyword → List TokenOf → Option TimedStatement
timed_statement_with None rest = None
timed_statement_with (Some keyword.Order) rest = by_variables ordered_by (variables_of_tokens rest)
timed_statement_with (Some keyword.Ideal) rest = by_variables ideal_by (variables_of_tokens rest)
timed_statement_with (Some keyword.Start) rest = option_map Start (assignments_of rest)
timed_statement_with (Some keyword.Change) rest = option_map Change (assignments_of rest)

-- the one statement of a token list, if it is one
abbrev pub timed_statement_of : List TokenOf → Option TimedStatement
timed_statement_of (WordOf word ∷ rest) = timed_statement_with (timed_keyword_of word) rest
timed_statement_of _ = None

-- the statements of a text, with their lines
abbrev pub timed_statements_of : List ℕ → List (Numbered TimedStatement)
timed_statements_of text = numbered_statements timed_statement_of text
