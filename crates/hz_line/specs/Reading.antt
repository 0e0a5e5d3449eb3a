-- What the reader of a text in a grammar answers.
use Rattle.std.specs.Prelude.{◌≡◌, ℕ, List, Option, Some, None}
use Rattle.std.specs.Option.{option_map}
use Rattle.hz_line.specs.Line.{lines_of}
use Rattle.hz_line.specs.OrThat.{OrThat}
use Rattle.hz_line.specs.Statement.{Meaning, Nothing, Malformed, Means, Numbered, numbered_statements, first_malformed}
use Rattle.hz_line.specs.Token.{TokenOf}
use Rattle.hz_line.specs.declared.statements.Numbered.{Numbered as Entered}
use Rattle.hz_line.specs.declared.statements.StatementFault.{StatementFault}
use Rattle.hz_line.specs.declared.statements.StatementFault.TheVariants as unread
use Rattle.hz_line.specs.declared.statements.StatementsFault.{StatementsFault}
use Rattle.hz_line.specs.declared.statements.StatementsFault.TheVariants as unread_text

-- the statement that something held stands for, with its line
abbrev pub numbered_by : {H S : Type 0} → (H → S) → Entered H → Numbered S
numbered_by stated entry = record { line = entry.line; statement = stated entry.held }

-- what a line is, by what was read of it, and the statement that this stands for
abbrev pub meaning_read : {H S : Type 0} → (H → S) → Option H → Meaning S
meaning_read stated None = Nothing
meaning_read stated (Some held) = Means (stated held)

-- what a grammar makes of the tokens of a line: nothing, if the line has no list of tokens
abbrev pub by_tokens : {A : Type 0} → (List TokenOf → Option A) → Option (List TokenOf) → Option A
by_tokens grammar None = None
by_tokens grammar (Some tokens) = grammar tokens

-- why nothing was read: it is not there; memory may always run out
abbrev pub IsUnread : {A : Type 0} → Option A → StatementFault → Type 0
IsUnread read why = OrThat unread.Memory (λ _. read ≡ None) why

-- why a line was not read: it is malformed; memory may always run out
abbrev pub IsUnreadLine : {S : Type 0} → Meaning S → StatementFault → Type 0
IsUnreadLine meaning why = OrThat unread.Memory (λ _. meaning ≡ Malformed) why

-- these are the statements of the text, and no line is malformed
pub record AreStatementsOf {S : Type 0} (grammar : List TokenOf → Option S) (text : List ℕ)
    (read : List (Numbered S)) : Type 0 where
  pub statements : numbered_statements grammar text ≡ read
  pub formed : first_malformed grammar 1 (lines_of text) ≡ None

-- why a text was not read: the line is the first malformed one; memory may always run out
abbrev pub IsUnreadText : {S : Type 0} → (List TokenOf → Option S) → List ℕ → StatementsFault →
    Type 0
IsUnreadText grammar text why =
    OrThat unread_text.Memory
    (λ found. option_map unread_text.Form (first_malformed grammar 1 (lines_of text))
    ≡ Some found)
    why
