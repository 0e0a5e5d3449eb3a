-- The statements of scripts.
use Rattle.std.specs.Prelude.{ℕ, List, ◌∷◌, codes, Option, Some, None, if◌then◌else◌}
use Rattle.std.specs.Option.{option_map}
use Rattle.hz_line.specs.Keyword.{is_keyword}
use Rattle.hz_line.specs.Statement.{Numbered, numbered_statements}
use Rattle.hz_line.specs.Token.{TokenOf, WordOf}
use Rattle.hz_text.specs.Assignment.{Assignment, assignments_of}

-- what a statement is
pub data Keyword : Type 0 where
  Start : Keyword
  Change : Keyword

-- a statement: the start or a change, and its assignments
pub record ScriptStatement : Type 0 where
  pub keyword : Keyword
  pub assignments : List Assignment

-- the keyword that a word is, in any letter case
unfoldable pub keyword_of : List ℕ → Option Keyword
keyword_of word =
    if is_keyword word (codes "start") then Some Start
    else (if is_keyword word (codes "change") then Some Change else None)

-- the statement of a keyword and the tokens after it
abbrev pub script_statement_with : Option Keyword → List TokenOf → Option ScriptStatement
script_statement_with None rest = None
script_statement_with (Some keyword) rest =
    option_map (λ assignments. record { keyword = keyword; assignments = assignments })
    (assignments_of rest)

-- the one statement of a token list, if it is one: a keyword, then any number of assignments
abbrev pub script_statement_of : List TokenOf → Option ScriptStatement
script_statement_of (WordOf word ∷ rest) = script_statement_with (keyword_of word) rest
script_statement_of _ = None

-- the statements of a script's text, with their lines
abbrev pub script_statements_of : List ℕ → List (Numbered ScriptStatement)
script_statements_of text = numbered_statements script_statement_of text
