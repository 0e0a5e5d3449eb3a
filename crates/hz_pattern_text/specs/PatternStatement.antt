-- The statements of texts of patterns.
use Rattle.std.specs.Prelude.{ℕ, Bool, List, [], ◌∷◌, codes, Option, Some, None, if◌then◌else◌}
use Rattle.std.specs.Option.{option_map}
use Rattle.hz_line.specs.Keyword.{is_keyword}
use Rattle.hz_line.specs.Statement.{Numbered, numbered_statements}
use Rattle.hz_line.specs.Token.{TokenOf, WordOf}
use Rattle.hz_text.specs.Assignment.{Assignment, assignments_of}

-- A statement, if an assignment is of this type: the gates that are held with their bits, or a pattern by its two words.
pub data PatternStatementOf (A : Type 0) : Type 0 where
  Hold : (assignments : List A) → PatternStatementOf A
  Pattern : (from : List ℕ) (to : List ℕ) → PatternStatementOf A

-- a statement as it is written
abbrev pub PatternStatement : Type 0
PatternStatement = PatternStatementOf Assignment

-- what a statement begins with
pub data PatternKeyword : Type 0 where
  HoldWord : PatternKeyword
  FromWord : PatternKeyword

-- the keyword that a word is, in any letter case
unfoldable pub pattern_keyword_of : List ℕ → Option PatternKeyword
pattern_keyword_of word =
    if is_keyword word (codes "hold") then Some HoldWord
    else (if is_keyword word (codes "from") then Some FromWord else None)

-- the word is the keyword between the two words of a pattern, in any letter case
unfoldable pub is_to : List ℕ → Bool
is_to word = is_keyword word (codes "to")

-- the pattern that the tokens after `from` are: a word, the word `to`, a word
abbrev pub pattern_by : List TokenOf → Option PatternStatement
pattern_by (WordOf from ∷ WordOf middle ∷ WordOf to ∷ []) =
    if is_to middle then Some (Pattern from to) else None
pattern_by _ = None

-- the statement of a keyword and the tokens after it
abbrev pub pattern_statement_with : Option PatternKeyword → List TokenOf → Option PatternStatement
pattern_statement_with None rest = None
pattern_statement_with (Some HoldWord) rest = option_map Hold (assignments_of rest)
pattern_statement_with (Some FromWord) rest = pattern_by rest

-- the one statement of a token list, if it is one
abbrev pub pattern_statement_of : List TokenOf → Option PatternStatement
pattern_statement_of (WordOf word ∷ rest) = pattern_statement_with (pattern_keyword_of word) rest
pattern_statement_of _ = None

-- the statements of a text of patterns, with their lines
abbrev pub pattern_statements_of : List ℕ → List (Numbered PatternStatement)
pattern_statements_of text = numbered_statements pattern_statement_of text
