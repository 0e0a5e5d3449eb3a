-- The least fault of a text, computed.
use Rattle.std.specs.Prelude.{ℕ, not, ◌&&◌, nat_lt, List, [], ◌∷◌, ◌++◌, length, map, fold, find, Option, Some, None, if◌then◌else◌}
use Rattle.std.specs.Option.{option_map}
use Rattle.std.specs.List.{list_any}
use Rattle.std.specs.Str.{bytes_eq}
use Rattle.hz_lists.specs.Least.{option_min}
use Rattle.hz_core.specs.Limits.{most_variables, most_gate_pins}
use Rattle.hz_line.specs.Statement.{Numbered, first_passing_line}
use Rattle.hz_netlist.specs.Element.{variable_total}
use Rattle.hz_blif.specs.declared.fault.BlifFault.{BlifFault}
use Rattle.hz_blif.specs.declared.fault.BlifFault.TheVariants as fault
use Rattle.hz_line.specs.LeastFault.{first_found}
use Rattle.hz_blif.specs.Text.{joined_lines}
use Rattle.hz_blif.specs.Line.{Line, lines_in, is_construct}
use Rattle.hz_blif.specs.Cover.{Cover, covers_of, definitions_of, uses_of, is_wrong_row, is_skipped, is_constant, is_too_large}
use Rattle.hz_blif.specs.Circuit.{elements_of_lines}
use Rattle.hz_blif.specs.Fault.{is_forbidden, has_wrong_form, line_has_long_name}
use Rattle.hz_netlist.specs.Names.{is_among, names_of}

-- the first line, of these behind others, whose form is wrong
abbrev pub wrong_form_after : List (Numbered Line) → List (Numbered Line) → Option ℕ
wrong_form_after before [] = None
wrong_form_after before (first ∷ rest) =
    if has_wrong_form before first.statement then Some first.line
    else wrong_form_after (before ++ first ∷ []) rest

-- a second definition on a line, by the line of the first, before others
abbrev pub twice_or : ℕ → Option ℕ → Option BlifFault → Option BlifFault
twice_or line None later = later
twice_or line (Some first) later = Some (fault.Twice line first)

-- the first of these names, behind others, that was defined before
abbrev pub twice_after : List (Numbered (List ℕ)) → List (Numbered (List ℕ)) → Option BlifFault
twice_after before [] = None
twice_after before (next ∷ rest) =
    twice_or next.line (first_passing_line (bytes_eq next.statement) before)
    (twice_after (before ++ next ∷ []) rest)

-- the line of the first row that is no row of this cover
abbrev pub wrong_row : Cover → Option ℕ
wrong_row cover = first_passing_line (is_wrong_row cover) cover.rows

-- the first of the numbers that are there
abbrev pub first_of : List (Option ℕ) → Option ℕ
first_of numbers = first_found numbers

-- the least of the numbers that are there
abbrev pub least_of : List (Option ℕ) → Option ℕ
least_of numbers = fold option_min None numbers

-- the count that a cover carries that is too large
abbrev pub count_of : Cover → ℕ
count_of cover =
    if nat_lt most_gate_pins (length cover.pins) then length cover.pins else length cover.rows

-- the line of a use, if the name is defined nowhere
abbrev pub undefined_use : List (List ℕ) → Numbered (List ℕ) → Option ℕ
undefined_use defined use_here =
    if is_among defined use_here.statement then None else Some use_here.line

-- too many variables
abbrev pub too_many : ℕ → Option BlifFault
too_many variables =
    if nat_lt most_variables variables then Some (fault.TooMany variables) else None

-- the least fault of each number, in the order of the numbers
abbrev pub faults_in : List ℕ → List (Option BlifFault)
faults_in text =
    let lines = lines_in text in
    option_map fault.Form
    (option_min (first_passing_line (list_any is_forbidden) (joined_lines text))
    (wrong_form_after [] lines))
    ∷ option_map fault.Name (first_passing_line line_has_long_name lines)
    ∷ option_map fault.Construct (first_passing_line is_construct lines)
    ∷ twice_after [] (definitions_of lines)
    ∷ option_map fault.Cover (first_of (map wrong_row (covers_of lines)))
    ∷ option_map (λ cover. fault.Pins cover.line (count_of cover))
    (find is_too_large (covers_of lines))
    ∷ option_map (λ cover. fault.Constant cover.line)
    (find (λ cover. is_constant cover && not (is_skipped lines cover)) (covers_of lines))
    ∷ option_map fault.Undefined
    (least_of (map (undefined_use (names_of (definitions_of lines))) (uses_of lines)))
    ∷ too_many (variable_total (elements_of_lines lines))
    ∷ []

-- the least fault of a text, if one stands
abbrev pub first_fault : List ℕ → Option BlifFault
first_fault text = first_found (faults_in text)
