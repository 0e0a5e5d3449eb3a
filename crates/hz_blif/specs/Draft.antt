-- What is kept of the lines of a text.
use Rattle.std.specs.Prelude.{◌≡◌, ℕ, suc, Bool, false, ◌+◌, ◌*◌, ◌^◌, ◌<◌, ◌≤◌, not, List, [], ◌∷◌, ◌++◌, length, fold, map, filter, Option, Some, None, option_map, is_some, nat_eq, ◌||◌, if◌then◌else◌}
use Rattle.std.specs.List.{All, IsDistinct, find, flat_map, list_any, sum_by}
use Rattle.std.specs.Option.{option_or}
use Rattle.std.specs.Str.{bytes_eq}
use Rattle.hz_lists.specs.Least.{option_min}
use Rattle.hz_core.specs.Limits.{most_variables}
use Rattle.hz_line.specs.Line.{most_text_bytes}
use Rattle.hz_line.specs.Statement.{Numbered, first_passing_line}
use Rattle.hz_netlist.specs.Element.{variable_total}
use Rattle.hz_netlist.specs.Names.{Names as NamesOf, AreNamesOf, seen_at, seen_names, names_of, on_line, name_at, names_at, AreNumbers}
use Rattle.hz_blif.specs.declared.cover.Cover.{Cover as CoverRead}
use Rattle.hz_blif.specs.declared.draft.Constant.{Constant as ConstantKept}
use Rattle.hz_blif.specs.declared.draft.Draft.{Draft}
use Rattle.hz_blif.specs.declared.fault.BlifFault.{BlifFault}
use Rattle.hz_blif.specs.declared.fault.BlifFault.TheVariants as fault
use Rattle.hz_blif.specs.declared.notes.Excess.{Excess}
use Rattle.hz_blif.specs.declared.notes.Notes.{Notes}
use Rattle.hz_blif.specs.declared.notes.Redefinition.{Redefinition}
use Rattle.hz_blif.specs.Check.{count_of, first_of, twice_after, wrong_form_after, wrong_row}
use Rattle.hz_blif.specs.Cover.{Cover, all_but_last, cover_of_line, inputs_of, is_constant, is_too_large, kept_covers, last_token, leading_rows, outputs_of, outputs_with, plane_of}
use Rattle.hz_blif.specs.Entries.{AreNamed, HoldsGates, elements_by}
use Rattle.hz_blif.specs.Fault.{line_has_long_name, is_forbidden}
use Rattle.hz_blif.specs.Gates.{cover_gates}
use Rattle.hz_blif.specs.Line.{Line, Blank, Model, Inputs, Outputs, Names, Row, End, Construct, is_construct, lines_in}
use Rattle.hz_blif.specs.Reading.{KeepsRows}
use Rattle.hz_blif.specs.Text.{joined_lines}

-- the covers that are not constant
abbrev pub varying : List Cover → List Cover
varying covers = filter (λ cover. not (is_constant cover)) covers

-- the names that the pins of a cover use, unless it is constant
abbrev pub cover_uses : Cover → List (Numbered (List ℕ))
cover_uses cover = if is_constant cover then [] else on_line cover.line cover.pins

-- the names that lines use, in the order of the lines, if no constant cover is used
abbrev pub uses_in_order : List (Numbered Line) → List (Numbered (List ℕ))
uses_in_order [] = []
uses_in_order (first ∷ rest) =
    flat_map cover_uses (cover_of_line first.line first.statement (leading_rows rest) [])
    ++ (outputs_with first.line first.statement ++ uses_in_order rest)

-- the output of a cover, with the cover's line
abbrev pub output_on : Cover → Numbered (List ℕ)
output_on cover = record { line = cover.line; statement = cover.output }

-- a constant cover by its output's name
abbrev pub constant_by : NamesOf → ConstantKept → Numbered (List ℕ)
constant_by names constant =
    record { line = constant.line; statement = name_at names constant.output }

-- what was noted, as faults
abbrev pub twice_fault : Redefinition → BlifFault
twice_fault again = fault.Twice again.line again.first

abbrev pub pins_fault : Excess → BlifFault
pins_fault excess = fault.Pins excess.line excess.count

-- nothing is noted
abbrev pub no_notes : Notes
no_notes =
    record { long_name = None; construct = None; again = None; wrong_row = None; excess = None }

-- the gates of covers that are not constant, up to the most variables, and the constant covers with their pins
pub record HoldsCovers (covers : List Cover) (draft : Draft) : Type 0 where
  pub gates : draft.variables ≤ most_variables →
      elements_by (name_at draft.names) draft.gates ≡ flat_map cover_gates (varying covers)
  pub holds : HoldsGates draft.gates
  pub gate_numbers : AreNamed (length draft.names) draft.gates
  pub counted : draft.variables ≡ variable_total (flat_map cover_gates (varying covers))
  pub constants : map (constant_by draft.names) draft.constants.items
      ≡ map output_on (filter is_constant covers)
  pub constant_numbers : All (λ constant. constant.output < length draft.names)
      draft.constants.items
  pub pins : names_at draft.names draft.constant_pins.items
      ≡ flat_map (λ cover. cover.pins) (filter is_constant covers)
  pub pin_numbers : AreNumbers draft.names draft.constant_pins.items

-- what lines are, as far as they were read: the first line with a long name and the first construct, the names that they define
-- and use, and their covers, of which the last one may still get rows
pub record Read : Type 0 where
  pub long_name : Option ℕ
  pub construct : Option ℕ
  pub definitions : List (Numbered (List ℕ))
  pub inputs : List (List ℕ)
  pub outputs : List (List ℕ)
  pub used : List (Numbered (List ℕ))
  pub done : List Cover
  pub current : Option Cover

-- of no lines
abbrev pub nothing_read : Read
nothing_read =
    record {
      long_name = None;
      construct = None;
      definitions = [];
      inputs = [];
      outputs = [];
      used = [];
      done = [];
      current = None;
    }

-- covers with the last one
abbrev pub covers_with : List Cover → Option Cover → List Cover
covers_with done None = done
covers_with done (Some cover) = done ++ cover ∷ []

-- uses with those of the last cover
abbrev pub uses_with : List (Numbered (List ℕ)) → Option Cover → List (Numbered (List ℕ))
uses_with used None = used
uses_with used (Some cover) = used ++ cover_uses cover

-- the last cover gets no more rows
abbrev pub closed : Read → Read
closed read =
    record read {
      done = covers_with read.done read.current;
      used = uses_with read.used read.current;
      current = None;
    }

-- the last cover with a row more
abbrev pub row_added : ℕ → List (List ℕ) → Option Cover → Option Cover
row_added line tokens None = None
row_added line tokens (Some cover) =
    Some (record cover { rows = cover.rows ++ record { line = line; statement = tokens } ∷ [] })

-- with a row, inputs or outputs more, or with a cover that begins
abbrev pub with_row : ℕ → List (List ℕ) → Read → Read
with_row line tokens read = record read { current = row_added line tokens read.current }

abbrev pub with_inputs : ℕ → List (List ℕ) → Read → Read
with_inputs line names read =
    record read
    { inputs = read.inputs ++ names; definitions = read.definitions ++ on_line line names }

abbrev pub with_outputs : ℕ → List (List ℕ) → Read → Read
with_outputs line names read =
    record read { outputs = read.outputs ++ names; used = read.used ++ on_line line names }

abbrev pub with_begun : ℕ → List (List ℕ) → List ℕ → Read → Read
with_begun line pins output read =
    record read {
      current = Some (record { line = line; pins = pins; output = output; rows = [] });
      definitions = read.definitions ++ record { line = line; statement = output } ∷ [];
    }

abbrev pub with_cover : ℕ → List (List ℕ) → Read → Read
with_cover line [] read = read
with_cover line (name ∷ names) read =
    with_begun line (all_but_last (name ∷ names)) (last_token (name ∷ names)) read

-- the first line stays, and else this one counts if it passes
abbrev pub note_if : Option ℕ → Bool → ℕ → Option ℕ
note_if known here line = option_or known (if here then Some line else None)

-- a line more, for what is noted of lines, and for the rest
abbrev pub noting : ℕ → Line → Read → Read
noting line it read =
    record read {
      long_name = note_if read.long_name (line_has_long_name it) line;
      construct = note_if read.construct (is_construct it) line;
    }

abbrev pub taking : ℕ → Line → Read → Read
taking line Blank read = read
taking line (Model names) read = closed read
taking line (Inputs names) read = with_inputs line names (closed read)
taking line (Outputs names) read = with_outputs line names (closed read)
taking line (Names names) read = with_cover line names (closed read)
taking line (Row tokens) read = with_row line tokens read
taking line (End tokens) read = closed read
taking line Construct read = closed read

-- what these lines are
abbrev pub with_next : Read → Numbered Line → Read
with_next read next = taking next.line next.statement (noting next.line next.statement read)

abbrev pub read_of : List (Numbered Line) → Read
read_of lines = fold with_next nothing_read lines

-- the cover that is being read, whose rows so far are as said
pub record HoldsCover (names : NamesOf) (one : Cover) (cover : CoverRead) : Type 0 where
  pub line : cover.line ≡ one.line
  pub pins : names_at names cover.pins.items ≡ one.pins
  pub pin_numbers : AreNumbers names cover.pins.items
  pub output : name_at names cover.output ≡ one.output
  pub output_number : cover.output < length names
  pub rows : KeepsRows one.rows cover.rows

abbrev pub HoldsCurrent : NamesOf → Option Cover → CoverRead → Type 0
HoldsCurrent names None cover = Unit {0}
HoldsCurrent names (Some one) cover = HoldsCover names one cover

-- what is kept of the lines so far. Behind a row that is not as said no cover is kept, and behind a cover that is too large no gate
pub record Holds (read : Read) (draft : Draft) : Type 0 where
  pub long_name : draft.notes.long_name ≡ read.long_name
  pub construct : draft.notes.construct ≡ read.construct
  pub distinct : IsDistinct bytes_eq (seen_names draft.names)
  pub used : List (Numbered (List ℕ))
  pub named : AreNamesOf read.definitions used draft.names
  pub again : option_map twice_fault draft.notes.again ≡ twice_after [] read.definitions
  pub inputs : names_at draft.names draft.inputs.items ≡ read.inputs
  pub input_numbers : AreNumbers draft.names draft.inputs.items
  pub outputs : names_at draft.names draft.outputs.items ≡ read.outputs
  pub output_numbers : AreNumbers draft.names draft.outputs.items
  pub wrong_row_is : draft.notes.wrong_row
      ≡ first_of (map wrong_row (covers_with read.done read.current))
  pub is_open : draft.is_open ≡ is_some read.current
  pub current : draft.notes.wrong_row ≡ None → HoldsCurrent draft.names read.current draft.cover
  pub excess_is : draft.notes.wrong_row ≡ None
      → option_map pins_fault draft.notes.excess
      ≡ option_map (λ cover. fault.Pins cover.line (count_of cover))
      (find is_too_large read.done)
  pub few : draft.variables ≤ variable_total (flat_map cover_gates (varying read.done))
  pub uses : draft.notes.wrong_row ≡ None → draft.notes.excess ≡ None → used ≡ read.used
  pub covers : draft.notes.wrong_row ≡ None → draft.notes.excess ≡ None →
      HoldsCovers read.done draft

-- what is kept once the cover that is being read is closed
abbrev pub HoldsClosed : Read → Draft → Type 0
HoldsClosed read draft = Holds (closed read) (record draft { is_open = false })

-- how many bytes a cover takes at least: two variables or more for each
abbrev pub cover_room : Cover → ℕ
cover_room cover =
    2 * suc (length cover.pins) + sum_by (λ row. 2 + length (plane_of row.statement)) cover.rows

-- what is kept, and its counts fit
pub record MayGoOn (draft : Draft) : Type 0 where
  pub read : Read
  pub holds : Holds read draft
  pub short : sum_by cover_room (covers_with read.done read.current) < 2 ^ 31

-- what a draft holds of a text: no line has a wrong form, and all lines were read
pub record IsDraftOf (text : List ℕ) (draft : Draft) : Type 0 where
  pub formed : option_min (first_passing_line (list_any is_forbidden) (joined_lines text))
      (wrong_form_after [] (lines_in text))
      ≡ None
  pub holds : Holds (closed (read_of (lines_in text))) draft

-- nothing is noted of lines and covers
pub record IsClean (draft : Draft) : Type 0 where
  pub long_name : draft.notes.long_name ≡ None
  pub construct : draft.notes.construct ≡ None
  pub again : draft.notes.again ≡ None
  pub wrong_row : draft.notes.wrong_row ≡ None
  pub excess : draft.notes.excess ≡ None

-- a pin of a constant cover or a use that was noted names it
abbrev pub is_used_number : Draft → ℕ → Bool
is_used_number draft number =
    list_any (nat_eq number) draft.constant_pins.items || is_some (seen_at draft.names number).user

-- the line of the first of these constant covers whose output is used
abbrev pub first_used : Draft → List ConstantKept → Option ℕ
first_used draft [] = None
first_used draft (constant ∷ rest) =
    if is_used_number draft constant.output then Some constant.line else first_used draft rest

-- a draft of a text that may be read
pub record IsDraftOfSome (draft : Draft) : Type 0 where
  pub text : List ℕ
  pub small : length text ≤ most_text_bytes
  pub is : IsDraftOf text draft

-- what a draft holds of a text without a fault: the names of its elements, by their numbers
pub record HoldsElements (text : List ℕ) (draft : Draft) : Type 0 where
  pub distinct : IsDistinct bytes_eq (seen_names draft.names)
  pub inputs : names_at draft.names draft.inputs.items ≡ inputs_of (lines_in text)
  pub input_numbers : AreNumbers draft.names draft.inputs.items
  pub gates : elements_by (name_at draft.names) draft.gates
      ≡ flat_map cover_gates (kept_covers (lines_in text))
  pub holds : HoldsGates draft.gates
  pub gate_numbers : AreNamed (length draft.names) draft.gates
  pub outputs : names_at draft.names draft.outputs.items ≡ names_of (outputs_of (lines_in text))
  pub output_numbers : AreNumbers draft.names draft.outputs.items
