-- The text of `analyse`: its lines, those that come once, and those of a change; and the summary of one change.
use Rattle.std.specs.Prelude.{ℕ, Bool, Option, Some, None, List, [], ◌∷◌, ◌++◌, length, take, map, codes, decimal, count_by, nat_eq, ◌+◌}
use Rattle.std.specs.List.{flat_map}
use Rattle.hz_write.specs.Writes.{newline}
use Rattle.hz_core.specs.Netlist.{Netlist, pin_count, variable_count}
use Rattle.hz_net.specs.Network.{network_of}
use Rattle.hz_gmw.specs.RunRecord.{flip_count}
use Rattle.hz_word.specs.declared.count.Count.{Count}
use Rattle.hz_word.specs.declared.count.Count.TheVariants.{Exact, Many}
use Rattle.hz_text.specs.Printed.{letter_of, statement_text, all_listed}
use Rattle.hz_text.specs.VariableWord.{variable_word, spaced_word}
use Rattle.hz_run_text.specs.RunPrinted.{run_text_printed}
use Rattle.hz_run_text.specs.RunValue.{RunTextOf}
use Rattle.hz_desk.specs.declared.class.Class.{Class}
use Rattle.hz_desk.specs.declared.class.Class.TheVariants.{Steady, Single, Static, MaybeDynamic, Change, Unsettled}
use Rattle.hz_desk.specs.declared.finding.Row.{Row}
use Rattle.hz_desk.specs.Finding.{FindingOf}
use Rattle.hz_options.specs.declared.show.Show.{Show}
use Rattle.hz_options.specs.declared.show.Show.TheVariants.{Nodes, All}
use Rattle.hz_core.specs.Letters.{tri_letter}

-- how many inputs, gates, wires and variables there are
unfoldable pub netlist_line : Netlist → List ℕ
netlist_line netlist =
    codes "netlist inputs " ++ decimal netlist.inputs
    ++ codes " gates " ++ decimal (length netlist.gates)
    ++ codes " wires " ++ decimal (pin_count netlist)
    ++ codes " variables " ++ decimal (variable_count netlist)
    ++ newline

-- the variables of a feedback cycle
unfoldable pub feedback_line : Netlist → List ℕ → List ℕ
feedback_line netlist cycle = codes "feedback" ++ flat_map (spaced_word netlist) cycle ++ newline

-- the value of each node at the start
unfoldable pub start_line : Netlist → List Bool → List ℕ
start_line netlist start =
    statement_text netlist (codes "start") (all_listed (take (length netlist.names) start))

-- the lines that come once: the size of the network, its feedback cycles, and the start
unfoldable pub head_text : Netlist → List (List ℕ) → List Bool → List ℕ
head_text netlist cycles start =
    netlist_line netlist ++ flat_map (feedback_line netlist) cycles ++ start_line netlist start

-- what a change assigns, in the order of the script; changes are counted from 1
unfoldable pub change_line : Netlist → ℕ → List (ℕ × Bool) → List ℕ
change_line netlist number change =
    statement_text netlist (codes "change " ++ decimal number) change

-- the rounds of Algorithms A and B
unfoldable pub rounds_line : FindingOf → List ℕ
rounds_line finding =
    codes "rounds A " ++ decimal finding.rounds_a ++ codes " B " ++ decimal finding.rounds_b
    ++ newline

-- the word of a number of changes: a variable that is not feedback-free has none
abbrev pub changes_word : Option Count → List ℕ
changes_word None = codes "-"
changes_word (Some (Exact changes)) = decimal changes
changes_word (Some Many) = codes "many"

-- the word of a class
abbrev pub class_word : Class → List ℕ
class_word Steady = codes "steady"
class_word Single = codes "single"
class_word Static = codes "static"
class_word MaybeDynamic = codes "maybe-dynamic"
class_word Change = codes "change"
class_word Unsettled = codes "unsettled"

-- what stands after the variable in the line of a row: its values at the start, in A and in B, its number of changes and its class
abbrev pub row_text : Row → List ℕ
row_text row =
    codes " start " ++ (letter_of row.start ∷ [])
    ++ codes " A " ++ tri_letter row.a
    ++ codes " B " ++ tri_letter row.b
    ++ codes " changes " ++ changes_word row.changes
    ++ 32 ∷ class_word row.class

-- a variable and its row
unfoldable pub row_line : Netlist → ℕ → Row → List ℕ
row_line netlist var row = variable_word netlist var ++ row_text row ++ newline

-- rows of variables, the first of which has a number
abbrev pub row_lines : Netlist → ℕ → List Row → List ℕ
row_lines netlist var [] = []
row_lines netlist var (row ∷ rows) = row_line netlist var row ++ row_lines netlist (var + 1) rows

-- how many variables are shown
abbrev pub shown_count : Netlist → Show → ℕ
shown_count netlist Nodes = length netlist.names
shown_count netlist All = length (network_of netlist)

-- the rows that are shown: those of the nodes, which come first, or all
abbrev pub shown_rows : Netlist → Show → List Row → List Row
shown_rows netlist Nodes rows = take (length netlist.names) rows
shown_rows netlist All rows = rows

-- how many race states the three runs have
unfoldable pub races_line : FindingOf → List ℕ
races_line finding =
    codes "races spread " ++ decimal finding.spread_races
    ++ codes " settle " ++ decimal finding.settle_races
    ++ codes " cycle " ++ decimal finding.cycle_races
    ++ newline

-- The run text of a change: the nodes' bits at the start, the new input, the spread run, and the settle run with its cycle.
abbrev pub runs_of_finding : Netlist → FindingOf → RunTextOf
runs_of_finding netlist finding =
    record {
      nodes = take (length netlist.names) (map (λ row. row.start) finding.rows);
      input = finding.input;
      runs =
          record { lead = finding.spread; cycle = None }
          ∷ record { lead = finding.settle; cycle = Some finding.cycle } ∷ [];
    }

-- The lines of a change that was made: what it assigns, the rounds, the rows, the race states and the run text.
unfoldable pub change_text : Netlist → Show → ℕ → List (ℕ × Bool) → FindingOf → List ℕ
change_text netlist show number change finding =
    change_line netlist number change
    ++ rounds_line finding
    ++ row_lines netlist 0 (shown_rows netlist show finding.rows)
    ++ races_line finding
    ++ run_text_printed netlist (runs_of_finding netlist finding)

-- the lines of a change that a variable stopped: what it assigns, and the variable
unfoldable pub stopped_text : Netlist → ℕ → List (ℕ × Bool) → ℕ → List ℕ
stopped_text netlist number change var =
    change_line netlist number change ++ codes "stopped" ++ spaced_word netlist var ++ newline

-- the place of a class in the line of classes
abbrev pub class_place : Class → ℕ
class_place Steady = 0
class_place Single = 1
class_place Static = 2
class_place MaybeDynamic = 3
class_place Change = 4
class_place Unsettled = 5

-- how many rows have the class of a place
abbrev pub count_at : List Row → ℕ → ℕ
count_at rows place = count_by (λ row. nat_eq (class_place row.class) place) rows

-- a class, and how many rows have it
abbrev pub class_total : List Row → Class → List ℕ
class_total rows class =
    32 ∷ class_word class
    ++ 32 ∷ decimal (count_by (λ row. nat_eq (class_place row.class) (class_place class)) rows)

-- how many variables have each class
unfoldable pub classes_line : List Row → List ℕ
classes_line rows =
    codes "classes"
    ++ flat_map (class_total rows)
    (Steady ∷ Single ∷ Static ∷ MaybeDynamic ∷ Change ∷ Unsettled ∷ [])
    ++ newline

-- how many steps and flips a run has
unfoldable pub run_line : List ℕ → List (List ℕ) → List ℕ
run_line name steps =
    name ++ codes " steps " ++ decimal (length steps) ++ codes " flips "
    ++ decimal (flip_count steps) ++ newline

-- The summary of a change over all variables: the size of the network, the rounds, the classes, and the size of the runs.
unfoldable pub summary_text : Netlist → FindingOf → List ℕ
summary_text netlist finding =
    netlist_line netlist ++ rounds_line finding ++ classes_line finding.rows
    ++ run_line (codes "spread") finding.spread
    ++ run_line (codes "settle") finding.settle
    ++ run_line (codes "cycle") finding.cycle
