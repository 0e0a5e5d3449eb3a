-- Exactly when each fault stands in a text, and which of several is the answer.
use Rattle.std.specs.Prelude.{◌≡◌, ℕ, ◌<◌, ◌≤◌, ◌⊎◌, Bool, true, false, not, ◌==◌, ◌||◌, ◌&&◌, nat_le, nat_lt, List, ◌∷◌, ◌++◌, length, fold, Some, None, Contains}
use Rattle.std.specs.List.{list_any}
use Rattle.std.specs.Str.{bytes_eq}
use Rattle.hz_core.specs.Limits.{most_variables, most_gate_pins}
use Rattle.hz_line.specs.Statement.{Numbered, first_passing_line}
use Rattle.hz_netlist.specs.Element.{variable_total}
use Rattle.hz_blif.specs.declared.fault.BlifFault.{BlifFault}
use Rattle.hz_blif.specs.declared.fault.BlifFault.TheVariants.{Form, Name, Construct, Twice, Cover, Pins, Constant, Undefined, TooMany, Memory}
use Rattle.hz_line.specs.LeastFault.{Faults, IsLeastOfAll}
use Rattle.hz_line.specs.OrThat.{OrThat}
use Rattle.hz_blif.specs.Text.{joined_lines, is_some_list}
use Rattle.hz_blif.specs.Line.{Line, Blank, Model, Inputs, Outputs, Names, Row, End, Construct as ConstructLine, names_in, lines_in, takes_rows_after, is_statement, is_construct, is_end, has_two}
use Rattle.hz_blif.specs.Cover.{Cover as CoverOf, covers_of, definitions_of, uses_of, is_wrong_row, is_skipped, is_constant}
use Rattle.hz_blif.specs.Circuit.{elements_of_lines}
use Rattle.hz_netlist.specs.Names.{is_among, names_of}

-- the most bytes of a name: room is left for what the names of gates add to it
abbrev pub longest_blif_name : ℕ
longest_blif_name = 240

-- a byte that may not stand in a line, outside comments
abbrev pub is_forbidden : ℕ → Bool
is_forbidden byte = not (byte == 9 || (nat_le 0x20 byte && nat_le byte 0x7e))

-- a byte that may not stand in a name, of those that may stand in a line: ( ) , = \
abbrev pub is_sign : ℕ → Bool
is_sign byte = byte == 40 || byte == 41 || byte == 44 || byte == 61 || byte == 92

-- a line has one of these items somewhere, after those before it
pub record Stands {A : Type 0} (items : List (Numbered A)) (before : List (Numbered A)) (line : ℕ)
    (item : A) : Type 0 where
  pub after : List (Numbered A)
  pub split : items ≡ before ++ record { line = line; statement = item } ∷ after

-- some of these lines is a statement
abbrev pub has_statement : List (Numbered Line) → Bool
has_statement lines = list_any (λ line. is_statement line.statement) lines

-- some of these lines is `.end`
abbrev pub has_end : List (Numbered Line) → Bool
has_end lines = list_any (λ line. is_end line.statement) lines

-- a row may come after these lines
abbrev pub takes_rows : List (Numbered Line) → Bool
takes_rows lines = fold (λ before line. takes_rows_after before line.statement) false lines

-- the line is not as said, after the lines before it: `.model` has two names or is not the first statement, `.names` has no name,
-- `.end` has a token more, or a row belongs to no cover
abbrev pub is_ill_formed : List (Numbered Line) → Line → Bool
is_ill_formed before Blank = false
is_ill_formed before (Model names) = has_two names || has_statement before
is_ill_formed before (Inputs names) = false
is_ill_formed before (Outputs names) = false
is_ill_formed before (Names names) = not (is_some_list names)
is_ill_formed before (Row tokens) = not (takes_rows before)
is_ill_formed before (End rest) = is_some_list rest
is_ill_formed before ConstructLine = false

-- a line has the fault of its form: by itself and its place, by a sign in one of its names, or as a statement after `.end`
abbrev pub has_wrong_form : List (Numbered Line) → Line → Bool
has_wrong_form before line =
    is_ill_formed before line || list_any (list_any is_sign) (names_in line)
    || (is_statement line && has_end before)

-- a name is too long
abbrev pub is_too_long : List ℕ → Bool
is_too_long name = nat_lt longest_blif_name (length name)

-- some name of a line is too long
abbrev pub line_has_long_name : Line → Bool
line_has_long_name line = list_any is_too_long (names_in line)

-- the count that a cover carries that has too many pins or rows: that of its pins, if they are too many
abbrev pub IsTooLarge : CoverOf → ℕ → Type 0
IsTooLarge cover count =
    ((most_gate_pins < length cover.pins) × (count ≡ length cover.pins))
    ⊎ ((length cover.pins ≤ most_gate_pins) × (most_gate_pins < length cover.rows)
    × (count ≡ length cover.rows))

-- a byte that may not stand there is on the line
abbrev pub HasForbidden : List ℕ → ℕ → Type 0
HasForbidden text line =
    (bytes : List ℕ) × Contains (joined_lines text) (record { line = line; statement = bytes })
    × (list_any is_forbidden bytes ≡ true)

-- the line's form is wrong
abbrev pub HasWrongForm : List ℕ → ℕ → Type 0
HasWrongForm text line =
    (before : List (Numbered Line)) × (here : Line) × Stands (lines_in text) before line here
    × (has_wrong_form before here ≡ true)

-- the line passes a test
abbrev pub HasThat : (Line → Bool) → List ℕ → ℕ → Type 0
HasThat test text line =
    (here : Line) × Contains (lines_in text) (record { line = line; statement = here })
    × (test here ≡ true)

-- a cover of the text
abbrev pub HasCover : List ℕ → CoverOf → Type 0
HasCover text cover = Contains (covers_of (lines_in text)) cover

-- the line defines a name that was defined before, first on line `first`; of several such names on one line the earliest counts
pub record IsSecondDefinition (definitions : List (Numbered (List ℕ))) (line first : ℕ) : Type 0 where
  pub before : List (Numbered (List ℕ))
  pub name : List ℕ
  pub stands : Stands definitions before line name
  pub first_is : first_passing_line (bytes_eq name) before ≡ Some first
  pub earliest : (earlier : List (Numbered (List ℕ))) (other : List ℕ) →
      Stands before earlier line other → first_passing_line (bytes_eq other) earlier ≡ None

-- the line uses a name that no line defines
abbrev pub UsesUndefined : List (Numbered (List ℕ)) → List (Numbered (List ℕ)) → ℕ → Type 0
UsesUndefined definitions uses line =
    (name : List ℕ) × Contains uses (record { line = line; statement = name })
    × (is_among (names_of definitions) name ≡ false)

-- the fault stands in the text
abbrev pub HasFault : List ℕ → BlifFault → Type 0
HasFault text (Form line) = HasForbidden text line ⊎ HasWrongForm text line
HasFault text (Name line) = HasThat line_has_long_name text line
HasFault text (Construct line) = HasThat is_construct text line
HasFault text (Twice line first) = IsSecondDefinition (definitions_of (lines_in text)) line first
HasFault text (Cover line) =
    (cover : CoverOf) × HasCover text cover
    × ((row : List (List ℕ)) × Contains cover.rows (record { line = line; statement = row })
    × (is_wrong_row cover row ≡ true))
HasFault text (Pins line count) =
    (cover : CoverOf) × HasCover text cover × (cover.line ≡ line) × IsTooLarge cover count
HasFault text (Constant line) =
    (cover : CoverOf) × HasCover text cover × (cover.line ≡ line) × (is_constant cover ≡ true)
    × (is_skipped (lines_in text) cover ≡ false)
HasFault text (Undefined line) =
    UsesUndefined (definitions_of (lines_in text)) (uses_of (lines_in text)) line
HasFault text (TooMany variables) =
    (most_variables < variables) × (variable_total (elements_of_lines (lines_in text)) ≡ variables)
HasFault text Memory = ⊥

-- the number of a fault
abbrev pub blif_fault_number : BlifFault → ℕ
blif_fault_number (Form line) = 1
blif_fault_number (Name line) = 2
blif_fault_number (Construct line) = 3
blif_fault_number (Twice line first) = 4
blif_fault_number (Cover line) = 5
blif_fault_number (Pins line count) = 6
blif_fault_number (Constant line) = 7
blif_fault_number (Undefined line) = 8
blif_fault_number (TooMany variables) = 9
blif_fault_number Memory = 10

-- the line of a fault; too many variables have none
abbrev pub blif_fault_line : BlifFault → ℕ
blif_fault_line (Form line) = line
blif_fault_line (Name line) = line
blif_fault_line (Construct line) = line
blif_fault_line (Twice line first) = line
blif_fault_line (Cover line) = line
blif_fault_line (Pins line count) = line
blif_fault_line (Constant line) = line
blif_fault_line (Undefined line) = line
blif_fault_line (TooMany variables) = 0
blif_fault_line Memory = 0

-- the faults of a text
abbrev pub blif_faults : List ℕ → Faults BlifFault
blif_faults text = record { stands = HasFault text; number = blif_fault_number; line = blif_fault_line }

-- the answer among the faults of a text: the least number and, among those, the least line
abbrev pub IsLeastFault : List ℕ → BlifFault → Type 0
IsLeastFault text fault = IsLeastOfAll (blif_faults text) fault

-- no fault stands in the text
abbrev pub IsFaultless : List ℕ → Type 0
IsFaultless text = (fault : BlifFault) → ¬ HasFault text fault

-- what is answered in place of a circuit: the least fault, or that memory ran out
abbrev pub IsBlifRefusal : List ℕ → BlifFault → Type 0
IsBlifRefusal text fault = OrThat Memory (IsLeastFault text) fault
