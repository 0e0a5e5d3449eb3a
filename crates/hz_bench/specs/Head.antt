-- How a statement is read from the front of its line.
use Rattle.std.specs.Prelude.{◌≡◌, ◌<◌, ◌≤◌, ◌+◌, ◌||◌, ℕ, Bool, false, List, [], ◌∷◌, length, map, Option, None, Some}
use Rattle.std.specs.Borrow.{Bor}
use Rattle.std.specs.List.{list_any}
use Rattle.hz_line.specs.Statement.{Means}
use Rattle.hz_line.specs.Token.{TokenOf, WordOf, PunctuationOf, tokens_of, with_token, has_punctuation_first}
use Rattle.hz_bench.specs.declared.entry.Line.{Line}
use Rattle.hz_bench.specs.declared.entry.Line.TheVariants.{Node, Output}
use Rattle.hz_bench.specs.declared.statement.Head.{Head}
use Rattle.hz_bench.specs.declared.statement.PunctuatedWord.{PunctuatedWord}
use Rattle.hz_bench.specs.declared.statement.NameList.{NameList}
use Rattle.hz_bench.specs.Entry.{numbered_line}
use Rattle.hz_bench.specs.Statement.{Statement, statement_of, name_list_of, is_long, words_in}
use Rattle.hz_bench.specs.Text.{bench_meaning}

-- the first tokens are a word and punctuation
abbrev pub has_punctuated_first : Option (List TokenOf) → Bool
has_punctuated_first None = false
has_punctuated_first (Some []) = false
has_punctuated_first (Some (PunctuationOf punctuation ∷ tokens)) = false
has_punctuated_first (Some (WordOf word ∷ tokens)) = has_punctuation_first (Some tokens)

-- a line begins with this word and this punctuation, before a shorter line; or with no word that has punctuation after it
abbrev pub IsPunctuatedFirst : List ℕ → Option PunctuatedWord → Type 0
IsPunctuatedFirst line None = has_punctuated_first (tokens_of line) ≡ false
IsPunctuatedFirst line (Some marked) =
    (tokens_of line
    ≡ with_token (WordOf marked.word.now)
    (with_token (PunctuationOf marked.punctuation) (tokens_of marked.rest.now)))
    × (length marked.rest.now < length line)

-- the statement of a line's tokens, if it has them and they are one
abbrev pub statement_by : Option (List TokenOf) → Option Statement
statement_by None = None
statement_by (Some tokens) = statement_of tokens

-- what is read of a line: its statement, or nothing if it has none
abbrev pub IsStatementOfLine : ℕ → List ℕ → Option Line → Type 0
IsStatementOfLine line text None = statement_by (tokens_of text) ≡ None
IsStatementOfLine line text (Some found) =
    ((numbered_line found).line ≡ line)
    × (bench_meaning text ≡ Means (numbered_line found).statement)

-- the tokens of a head, and of the line after it
abbrev pub head_tokens : Head → Option (List TokenOf)
head_tokens head =
    with_token (WordOf head.first.now)
    (with_token (PunctuationOf head.punctuation)
    (with_token (WordOf head.second.now)
    (with_token (PunctuationOf head.next) (tokens_of head.rest.now))))

-- a line begins with this head; without one it has no statement
abbrev pub IsHeadOf : List ℕ → Option Head → Type 0
IsHeadOf line None = statement_by (tokens_of line) ≡ None
IsHeadOf line (Some head) =
    (tokens_of line ≡ head_tokens head) × (length head.rest.now ≤ length line)

-- the names that a line's tokens list, if it has them and they are a list of names
abbrev pub names_by : Option (List TokenOf) → Option (List (List ℕ))
names_by None = None
names_by (Some tokens) = name_list_of tokens

-- what is noted of names, after what was noted before them
abbrev pub name_list_with : NameList → List (List ℕ) → NameList
name_list_with noted names =
    record { count = noted.count + length names; long = noted.long || list_any is_long names }

-- nothing is noted yet
abbrev pub no_name_list : NameList
no_name_list = record { count = 0; long = false }

-- words that were kept of the names in a part of a line are all of them, if they are that many
abbrev pub AreKept : List (Bor (List ℕ)) → ℕ → List ℕ → Type 0
AreKept words count part = length words ≡ count → map (λ word. word.now) words ≡ words_in part

-- the words were kept of the sources of a node
abbrev pub HasWords : Line → List (Bor (List ℕ)) → Type 0
HasWords (Node entry) words = AreKept words entry.pins entry.sources.now
HasWords (Output output) words = Unit {0}
