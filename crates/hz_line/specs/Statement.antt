-- The statements of a text in a grammar, by their lines.
use Rattle.std.specs.Prelude.{◌≡◌, ℕ, zero, suc, Bool, true, List, [], ◌∷◌, Option, Some, None, ◌⊎◌}
use Rattle.std.specs.List.{slice_index_or, find}
use Rattle.std.specs.Option.{option_map}
use Rattle.hz_line.specs.Line.{lines_of}
use Rattle.hz_line.specs.Token.{TokenOf, tokens_of}

-- what a line is: without tokens and so no statement, malformed, or a statement
pub data Meaning (S : Type 0) : Type 0 where
  Nothing : Meaning S
  Malformed : Meaning S
  Means : (statement : S) → Meaning S

-- a token list that is no statement is malformed
abbrev pub meaning_by : {S : Type 0} → Option S → Meaning S
meaning_by None = Malformed
meaning_by (Some statement) = Means statement

-- what a line with these tokens is; a line with a forbidden byte before its comment has none and is malformed
abbrev pub meaning_of_tokens : {S : Type 0} → (List TokenOf → Option S) → Option (List TokenOf) →
    Meaning S
meaning_of_tokens grammar None = Malformed
meaning_of_tokens grammar (Some []) = Nothing
meaning_of_tokens grammar (Some (token ∷ tokens)) = meaning_by (grammar (token ∷ tokens))

-- what a line is
abbrev pub meaning_of : {S : Type 0} → (List TokenOf → Option S) → List ℕ → Meaning S
meaning_of grammar line = meaning_of_tokens grammar (tokens_of line)

-- what the line with this number is; lines are counted from 1, and past the end there is nothing
abbrev pub meaning_at : {S : Type 0} → (List TokenOf → Option S) → List ℕ → ℕ → Meaning S
meaning_at grammar text zero = Nothing
meaning_at grammar text (suc above) = meaning_of grammar (slice_index_or (lines_of text) above [])

-- a statement and the number of its line
pub record Numbered (S : Type 0) : Type 0 where
  pub line : ℕ
  pub statement : S

-- the statement of a line before those of later lines
abbrev pub with_meaning : {S : Type 0} → ℕ → Meaning S → List (Numbered S) → List (Numbered S)
with_meaning line Nothing rest = rest
with_meaning line Malformed rest = rest
with_meaning line (Means statement) rest = record { line = line; statement = statement } ∷ rest

-- the statements of lines, the first of which has this number
abbrev pub numbered_from : {S : Type 0} → (List TokenOf → Option S) → ℕ → List (List ℕ) →
    List (Numbered S)
numbered_from grammar line [] = []
numbered_from grammar line (first ∷ rest) =
    with_meaning line (meaning_of grammar first) (numbered_from grammar (suc line) rest)

-- the statements of a text, with their lines
abbrev pub numbered_statements : {S : Type 0} → (List TokenOf → Option S) → List ℕ →
    List (Numbered S)
numbered_statements grammar text = numbered_from grammar 1 (lines_of text)

-- some of these statements is on this line and passes the test
abbrev pub PassesOn : {S : Type 0} → (S → Bool) → List (Numbered S) → ℕ → Type 0
PassesOn test [] line = ⊥
PassesOn test (first ∷ later) line =
    ((first.line ≡ line) × (test first.statement ≡ true)) ⊎ PassesOn test later line

-- the line of the first statement that passes the test, if one does
abbrev pub first_passing_line : {S : Type 0} → (S → Bool) → List (Numbered S) → Option ℕ
first_passing_line test statements =
    option_map (λ numbered. numbered.line) (find (λ numbered. test numbered.statement) statements)

-- the first malformed line, if the line with this number means this, and later ones have this first one
abbrev pub malformed_before : {S : Type 0} → ℕ → Meaning S → Option ℕ → Option ℕ
malformed_before line Nothing later = later
malformed_before line Malformed later = Some line
malformed_before line (Means statement) later = later

-- the number of the first malformed line, if there is one; the first of these lines has this number
abbrev pub first_malformed : {S : Type 0} → (List TokenOf → Option S) → ℕ → List (List ℕ) → Option ℕ
first_malformed grammar line [] = None
first_malformed grammar line (first ∷ rest) =
    malformed_before line (meaning_of grammar first) (first_malformed grammar (suc line) rest)
