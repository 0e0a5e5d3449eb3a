-- What is noted of statements while they are read.
use Rattle.std.specs.Prelude.{ℕ, ◌+◌, Bool, List, Option, Some, None, option_map, if◌then◌else◌}
use Rattle.hz_line.specs.Statement.{Numbered, first_passing_line}
use Rattle.hz_bench.specs.declared.notes.Notes.{Notes}
use Rattle.hz_bench.specs.declared.notes.WrongPins.{WrongPins}
use Rattle.hz_bench.specs.Check.{first_that}
use Rattle.hz_netlist.specs.Element.{element_variables, variable_total}
use Rattle.hz_bench.specs.Netlist.{element_of, elements_of}
use Rattle.hz_bench.specs.Statement.{Statement, has_long_name, has_unknown_kind, has_wrong_pins, statement_pin_count}
use Rattle.hz_bench.specs.Text.{plain}

-- a flip-flop or a gate with wrong pins, as it is noted
abbrev pub wrong_pins_of : Numbered Statement → WrongPins
wrong_pins_of numbered =
    record { line = numbered.line; count = statement_pin_count numbered.statement }

-- the notes are those of these statements: the first line of each fault of a single statement, and the sum of all variables
abbrev pub notes_of : List (Numbered Statement) → Notes
notes_of statements = record {
  long_name = first_passing_line has_long_name statements;
  unknown_kind = first_passing_line has_unknown_kind statements;
  wrong_pins = option_map wrong_pins_of (first_that has_wrong_pins statements);
  variables = variable_total (elements_of (plain statements));
}

-- of no statement
abbrev pub no_notes : Notes
no_notes =
    record {
      long_name = None;
      unknown_kind = None;
      wrong_pins = None;
      variables = 0;
    }

-- the line that was noted first, or this one if it is the first to be noted
abbrev pub first_of : Option ℕ → Bool → ℕ → Option ℕ
first_of (Some first) here line = Some first
first_of None here line = if here then Some line else None

-- the wrong pins that were noted first, or this statement if it is the first
abbrev pub wrong_or : Option WrongPins → Numbered Statement → Option WrongPins
wrong_or (Some first) numbered = Some first
wrong_or None numbered =
    if has_wrong_pins numbered.statement then Some (wrong_pins_of numbered) else None

-- with one statement more
abbrev pub notes_with : Notes → Numbered Statement → Notes
notes_with notes numbered = record {
  long_name = first_of notes.long_name (has_long_name numbered.statement) numbered.line;
  unknown_kind = first_of notes.unknown_kind (has_unknown_kind numbered.statement) numbered.line;
  wrong_pins = wrong_or notes.wrong_pins numbered;
  variables = notes.variables + element_variables (element_of numbered.statement);
}
