-- What the reader's calls return, by the definitions of lines.
use Rattle.std.specs.Prelude.{◌≡◌, ℕ, ◌+◌, ◌<◌, Bool, false, not, nat_lt, List, [], ◌∷◌, map, length, take, Option, Some, None, if◌then◌else◌}
use Rattle.std.specs.List.{list_all, list_any}
use Rattle.std.specs.Borrow.{Bor}
use Rattle.hz_line.specs.Line.{lines_of, lines_of_rest}
use Rattle.hz_line.specs.Statement.{Numbered}
use Rattle.hz_blif.specs.declared.cover.Rows.{Rows}
use Rattle.hz_blif.specs.declared.line.Line.{Line as LineRead}
use Rattle.hz_blif.specs.declared.line.Line.TheVariants as read
use Rattle.hz_blif.specs.declared.line.Course.{Course}
use Rattle.hz_blif.specs.declared.lines.JoinedLine.{JoinedLine}
use Rattle.hz_blif.specs.declared.lines.Piece.{Piece}
use Rattle.hz_blif.specs.Text.{without_comment, goes_on, is_blank, words_of_line, joined_from}
use Rattle.hz_core.specs.Limits.{most_gate_pins}
use Rattle.hz_blif.specs.Cover.{all_but_last, first_column, has_literal, plane_of}
use Rattle.hz_blif.specs.Line.{Line, Blank, Model, Inputs, Outputs, Names, Row, End, Construct}
use Rattle.hz_blif.specs.Fault.{is_forbidden, has_statement, has_end, takes_rows}

-- a line begins with a blank
abbrev pub begins_blank : List ℕ → Bool
begins_blank [] = false
begins_blank (byte ∷ rest) = is_blank byte

-- the first word of a line, with the line after it; none if the line has no token
abbrev pub IsFirstWord : List ℕ → Option (Bor (List ℕ) × Bor (List ℕ)) → Type 0
IsFirstWord line None = words_of_line line ≡ []
IsFirstWord line (Some found) =
    (words_of_line line ≡ found.0.now ∷ words_of_line found.1.now) × (length found.1.now < length line)

-- words as they are seen: the bytes of each
abbrev pub bytes_of : List (Bor (List ℕ)) → List (List ℕ)
bytes_of words = map (λ word. word.now) words

-- a line without its comment, and without the '\' by which it goes on
pub record IsPieceOf (line : List ℕ) (piece : Piece) : Type 0 where
  pub joins : piece.goes_on ≡ goes_on (without_comment line)
  pub front : piece.bytes.now
      ≡ (if goes_on (without_comment line) then all_but_last (without_comment line)
      else without_comment line)

-- a line of the reader as a line
abbrev pub line_by : LineRead → Line
line_by read.Blank = Blank
line_by (read.Model names) = Model (bytes_of names.now)
line_by (read.Inputs names) = Inputs (bytes_of names.now)
line_by (read.Outputs names) = Outputs (bytes_of names.now)
line_by (read.Names names) = Names (bytes_of names.now)
line_by (read.Row tokens) = Row (bytes_of tokens.now)
line_by (read.End rest) = End (bytes_of rest.now)
line_by read.Construct = Construct

-- what was read of a joined line: its tokens, whether a byte may not stand in it, and what comes after it
pub record IsJoinedLine (text : List ℕ) (tokens : List (Bor (List ℕ)))
    (joined : JoinedLine) : Type 0 where
  pub bytes : List ℕ
  pub first : (line : ℕ) →
      joined_from line (lines_of text)
      ≡ record { line = line; statement = bytes }
      ∷ joined_from (line + joined.lines) (lines_of_rest joined.rest)
  pub tokens_are : words_of_line bytes ≡ bytes_of tokens
  pub forbidden : joined.is_forbidden ≡ list_any is_forbidden bytes

-- what is known of lines that came before another
abbrev pub course_of : List (Numbered Line) → Course
course_of lines =
    record {
      has_statement = has_statement lines;
      has_end = has_end lines;
      takes_rows = takes_rows lines;
    }

-- the planes of rows
abbrev pub planes_in : List (Numbered (List (List ℕ))) → List (List ℕ)
planes_in rows = map (λ row. plane_of row.statement) rows

-- what is kept of these planes: whether some plane has no literal, and as many of them as a cover may have rows
pub record KeepsPlanes (planes : List (List ℕ)) (kept : Rows) : Type 0 where
  pub bare : kept.has_bare ≡ not (list_all has_literal planes)
  pub planes_are : bytes_of kept.planes.items ≡ take most_gate_pins planes

-- what is kept of the rows of a cover, which are all as said
pub record KeepsRows (rows : List (Numbered (List (List ℕ)))) (kept : Rows) : Type 0 where
  pub counted : kept.count ≡ length rows
  pub column_is : kept.column.now ≡ first_column rows
  pub planes_kept : KeepsPlanes (planes_in rows) kept

-- the count of pins, or else of rows, if it is more than a gate takes
abbrev pub excess_of : ℕ → ℕ → Option ℕ
excess_of pins rows =
    if nat_lt most_gate_pins pins then Some pins
    else (if nat_lt most_gate_pins rows then Some rows else None)
