-- The lines of an exploration.
use Rattle.std.specs.Prelude.{ℕ, ◌+◌, Bool, true, false, ◌&&◌, Option, Some, None, List, [], ◌∷◌, ◌++◌, length, codes, decimal, nat_eq, if◌then◌else◌}
use Rattle.std.specs.List.{flat_map, list_any}
use Rattle.hz_core.specs.Netlist.{Netlist}
use Rattle.hz_write.specs.Writes.{newline}
use Rattle.hz_text.specs.Printed.{all_listed, assignment_text, statement_text}
use Rattle.hz_text.specs.VariableWord.{spaced_word}
use Rattle.hz_orders.specs.declared.order.Order.{Order}
use Rattle.hz_states.specs.States.{state_number}
use Rattle.hz_timing.specs.declared.script.Assumption.{Assumption}
use Rattle.hz_timing.specs.declared.script.Assumption.TheVariants as assumed
use Rattle.hz_explore.specs.declared.counting.Classes.{Classes}
use Rattle.hz_explore.specs.Counts.{classes_of, totals_of}
use Rattle.hz_explore.specs.Reached.{nodes_of}
use Rattle.hz_explore.specs.Transitions.{Outcome, Settled, Unsettled, Transition, node_classes}
use Rattle.hz_explore.specs.Exploration.{Explored, all_nodes, all_transitions}

-- the values of the nodes in a state; states are counted from 1
unfoldable pub state_line : Netlist → ℕ → List Bool → List ℕ
state_line netlist number nodes =
    statement_text netlist (codes "state " ++ decimal number) (all_listed nodes)

-- the number of the state in which a transition ends, or that it is not one of the states
abbrev pub number_text : Option ℕ → List ℕ
number_text (Some place) = decimal (place + 1)
number_text None = codes "more"

-- how many nodes are of each class
abbrev pub counts_text : Classes → List ℕ
counts_text classes =
    codes " single " ++ decimal classes.single
    ++ codes " static " ++ decimal classes.statics
    ++ codes " dynamic " ++ decimal classes.dynamic
    ++ codes " maybe-dynamic " ++ decimal classes.maybe_dynamic

-- the assignments of a burst
abbrev pub burst_text : Netlist → List (ℕ × Bool) → List ℕ
burst_text netlist burst = flat_map (assignment_text netlist) burst

-- how many nodes are maybe-static, if the script assumes something; without it none is
abbrev pub maybe_static_text : List Assumption → Classes → List ℕ
maybe_static_text [] classes = []
maybe_static_text (one ∷ assumptions) classes =
    codes " maybe-static " ++ decimal classes.maybe_static

-- two orders are the same
abbrev pub same_order : Order → Order → Bool
same_order order other =
    nat_eq order.first other.first
    && (nat_eq order.second other.second && nat_eq order.nth other.nth)

-- Orders rest on an assumption: one of them is it, or has the wire without delay as its first one.
abbrev pub rest_on : List Order → Assumption → Bool
rest_on used (assumed.Order order) = list_any (same_order order) used
rest_on used (assumed.Ideal wire) = list_any (λ order. nat_eq order.first wire) used

-- the number of an assumption, if orders rest on it
abbrev pub used_number : ℕ → Assumption → List Order → List ℕ
used_number number one used = if rest_on used one then 32 ∷ decimal number else []

-- those of assumptions, the first of which has a number
abbrev pub used_numbers : ℕ → List Assumption → List Order → List ℕ
used_numbers number [] used = []
used_numbers number (one ∷ later) used =
    used_number number one used ++ used_numbers (number + 1) later used

-- that no run which keeps the orders is shown, if there is none
abbrev pub not_shown_text : Bool → List ℕ
not_shown_text true = []
not_shown_text false = codes " not shown"

-- the assumptions on which the orders rest that a change uses, counted from 1 in the order of the script, and whether a run that keeps
-- the orders is shown; nothing if it uses none
abbrev pub used_text : List Assumption → List Order → Bool → List ℕ
used_text assumptions [] kept = []
used_text assumptions (order ∷ orders) kept =
    codes " used" ++ used_numbers 1 assumptions (order ∷ orders) ++ not_shown_text kept

-- what stands behind the number of a transition's state, among the nodes of all states: where it ends, its burst, and the classes of
-- the nodes; or its burst and the variable that is unsettled
abbrev pub outcome_text : Netlist → List Assumption → List (List Bool) → Transition → Outcome →
    List ℕ
outcome_text netlist assumptions states transition (Settled next) =
    codes " to " ++ number_text (state_number states (nodes_of netlist next))
    ++ burst_text netlist transition.burst
    ++ counts_text (classes_of (node_classes netlist transition.found))
    ++ maybe_static_text assumptions (classes_of (node_classes netlist transition.found))
outcome_text netlist assumptions states transition (Unsettled var) =
    codes " unsettled" ++ burst_text netlist transition.burst ++ spaced_word netlist var

-- the line of a transition from the state with this number
abbrev pub transition_line : Netlist → List Assumption → List (List Bool) → ℕ → Transition →
    List ℕ
transition_line netlist assumptions states number transition =
    decimal number ++ outcome_text netlist assumptions states transition transition.outcome
    ++ used_text assumptions transition.found.used transition.found.kept ++ newline

-- the lines of a state: its nodes, and its transitions
abbrev pub explored_text : Netlist → List Assumption → List (List Bool) → ℕ → Explored → List ℕ
explored_text netlist assumptions states number one =
    state_line netlist number one.nodes
    ++ flat_map (transition_line netlist assumptions states number) one.transitions

-- those of states, the first of which has a number
abbrev pub all_explored_text : Netlist → List Assumption → List (List Bool) → ℕ →
    List Explored → List ℕ
all_explored_text netlist assumptions states number [] = []
all_explored_text netlist assumptions states number (one ∷ later) =
    explored_text netlist assumptions states number one ++ all_explored_text netlist assumptions states (number + 1) later

-- whether all states were found
abbrev pub whole_word : Bool → List ℕ
whole_word true = codes "all"
whole_word false = codes "part"

-- how many states and transitions there are, and how many of these are clean, have a hazard and are unsettled
abbrev pub totals_text : Bool → ℕ → ℕ → ℕ → ℕ → List ℕ
totals_text whole states clean hazards unsettled =
    whole_word whole ++ codes " states " ++ decimal states
    ++ codes " changes " ++ decimal (clean + (hazards + unsettled))
    ++ codes " clean " ++ decimal clean
    ++ codes " hazards " ++ decimal hazards
    ++ codes " unsettled " ++ decimal unsettled
    ++ newline

-- the last line
abbrev pub totals_line : Netlist → List Explored → List ℕ
totals_line netlist explored =
    let totals = totals_of netlist (all_nodes explored) (all_transitions explored) in
    totals_text totals.is_whole (length explored) totals.clean totals.hazards totals.unsettled

-- the lines of all states, and the last line
unfoldable pub exploration_text : Netlist → List Assumption → List Explored → List ℕ
exploration_text netlist assumptions explored =
    all_explored_text netlist assumptions (all_nodes explored) 1 explored
    ++ totals_line netlist explored
