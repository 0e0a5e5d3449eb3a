-- The lines of one change in the job `edges`.
use Rattle.std.specs.Prelude.{ℕ, ◌+◌, Bool, true, false, Option, Some, None, List, [], ◌∷◌, ◌++◌, length, take, codes, decimal, nat_eq, if◌then◌else◌}
use Rattle.std.specs.List.{flat_map}
use Rattle.hz_core.specs.declared.tri.Tri.{Tri}
use Rattle.hz_core.specs.Letters.{tri_letter}
use Rattle.hz_core.specs.Netlist.{Netlist}
use Rattle.hz_write.specs.Writes.{newline}
use Rattle.hz_text.specs.Printed.{letter_of}
use Rattle.hz_text.specs.VariableWord.{variable_word, spaced_word}
use Rattle.hz_run_text.specs.RunPrinted.{run_text_printed}
use Rattle.hz_bounds.specs.declared.range.Range.{Range}
use Rattle.hz_bounds.specs.declared.range.EdgeClass.{EdgeClass}
use Rattle.hz_bounds.specs.declared.range.EdgeClass.TheVariants.{Steady, Single, Static, MaybeStatic, Dynamic, MaybeDynamic, Unsettled}
use Rattle.hz_bounds.specs.Ranges.{edge_class_of}
use Rattle.hz_options.specs.declared.show.Show.{Show}
use Rattle.hz_orders.specs.declared.order.Order.{Order}
use Rattle.hz_timing.specs.declared.script.Assumption.{Assumption}
use Rattle.hz_script.specs.ScriptValue.{ScriptOf}
use Rattle.hz_report.specs.Report.{change_line, shown_count, start_line, stopped_text}
use Rattle.hz_edges.specs.Edges.{EdgesOf, range_at}
use Rattle.hz_edge_reports.specs.EdgeChanges.{ChangeOf, EdgeAnalysis, Found, Stopped, run_of_change}

-- an order that is used: its wires and its number
unfoldable pub used_line : Netlist → Order → List ℕ
used_line netlist order =
    codes "used" ++ spaced_word netlist order.first ++ spaced_word netlist order.second
    ++ 32 ∷ decimal order.nth ++ newline

-- the word of a class
abbrev pub edge_class_word : EdgeClass → List ℕ
edge_class_word Steady = codes "steady"
edge_class_word Single = codes "single"
edge_class_word Static = codes "static"
edge_class_word MaybeStatic = codes "maybe-static"
edge_class_word Dynamic = codes "dynamic"
edge_class_word MaybeDynamic = codes "maybe-dynamic"
edge_class_word Unsettled = codes "unsettled"

-- a bound behind the number from below: nothing if they are the same, and two points alone if there is none
abbrev pub bound_text : ℕ → Option ℕ → List ℕ
bound_text least None = codes ".."
bound_text least (Some most) =
    if nat_eq most least then [] else codes ".." ++ decimal most

-- the word of a range
abbrev pub range_word : Range → List ℕ
range_word range = decimal range.least ++ bound_text range.least range.most

-- the values of a variable: at the start, and that of Algorithm B
abbrev pub values_text : Bool → Tri → List ℕ
values_text start end =
    codes " start " ++ (letter_of start ∷ []) ++ codes " end " ++ tri_letter end ++ codes " edges "

-- what stands after the variable in its line: its values, its range and its class
abbrev pub edge_row_text : Bool → Tri → Range → List ℕ
edge_row_text start end range =
    values_text start end ++ range_word range ++ 32 ∷ edge_class_word (edge_class_of start end range)

-- a variable and what is found of its edges
unfoldable pub edge_line : Netlist → ℕ → Bool → Tri → Range → List ℕ
edge_line netlist var start end range =
    variable_word netlist var ++ edge_row_text start end range ++ newline

-- those of variables, the first of which has a number, by their values at the start and what they come to
abbrev pub edge_lines : Netlist → ℕ → List Bool → List Tri → EdgesOf → List ℕ
edge_lines netlist var [] ends edges = []
edge_lines netlist var (bit ∷ start) [] edges = []
edge_lines netlist var (bit ∷ start) (end ∷ ends) edges =
    edge_line netlist var bit end (range_at edges var)
    ++ edge_lines netlist (var + 1) start ends edges

-- whether a run that keeps the orders is shown
unfoldable pub kept_line : Bool → List ℕ
kept_line true = codes "kept yes" ++ newline
kept_line false = codes "kept not shown" ++ newline

-- how many orders are used, and how many are idle
unfoldable pub orders_line : ℕ → ℕ → List ℕ
orders_line used idle =
    codes "orders used " ++ decimal used ++ codes " idle " ++ decimal idle ++ newline

-- that, if the script assumes something
abbrev pub orders_text : List Assumption → ChangeOf → List ℕ
orders_text [] found = []
orders_text (one ∷ assumptions) found = orders_line (length found.used) found.idle

-- whether a run is shown, if orders are used
abbrev pub kept_text : List Order → Bool → List ℕ
kept_text [] kept = []
kept_text (order ∷ orders) kept = kept_line kept

-- the run text, unless orders are used and no run that keeps them is shown
abbrev pub shown_run : List Order → Bool → List ℕ → List ℕ
shown_run [] kept text = text
shown_run (order ∷ orders) kept text = if kept then text else []

-- The lines of a change that was made: what it assigns, the orders that it uses, the lines of the variables that are shown, whether a run
-- keeps the orders, how many are used, and the run text.
unfoldable pub found_text : Netlist → Show → List Assumption → ℕ → List (ℕ × Bool) → ChangeOf →
    List ℕ
found_text netlist show assumptions number change found =
    change_line netlist number change
    ++ flat_map (used_line netlist) found.used
    ++ edge_lines netlist 0 (take (shown_count netlist show) found.start)
    (take (shown_count netlist show) found.ends) found.edges
    ++ kept_text found.used found.kept
    ++ orders_text assumptions found
    ++ shown_run found.used found.kept
    (run_text_printed netlist (run_of_change netlist found))

-- the lines of what one change comes to
abbrev pub edge_change_text : Netlist → Show → List Assumption → ℕ → List (ℕ × Bool) →
    EdgeAnalysis → List ℕ
edge_change_text netlist show assumptions number change (Found found) =
    found_text netlist show assumptions number change found
edge_change_text netlist show assumptions number change (Stopped var) =
    stopped_text netlist number change var

-- those of changes, the first of which has a number
abbrev pub edge_changes_text : Netlist → Show → List Assumption → ℕ → List (List (ℕ × Bool)) →
    List EdgeAnalysis → List ℕ
edge_changes_text netlist show assumptions number [] analyses = []
edge_changes_text netlist show assumptions number (change ∷ changes) [] = []
edge_changes_text netlist show assumptions number (change ∷ changes) (analysis ∷ analyses) =
    edge_change_text netlist show assumptions number change analysis
    ++ edge_changes_text netlist show assumptions (number + 1) changes analyses

-- those of the parts of a script, each with its start; changes are counted through all parts
abbrev pub parts_text : Netlist → Show → List Assumption → ℕ → List (List Bool) →
    List ScriptOf → List (List EdgeAnalysis) → List ℕ
parts_text netlist show assumptions number (start ∷ starts) (part ∷ parts) (analyses ∷ later) =
    start_line netlist start
    ++ edge_changes_text netlist show assumptions number part.changes analyses
    ++ parts_text netlist show assumptions (number + length part.changes) starts parts later
parts_text netlist show assumptions number starts parts all = []
