-- What nodes and transitions count as.
use Rattle.std.specs.Prelude.{◌≡◌, Bool, true, false, ◌&&◌, List, [], ◌∷◌, All, count_by}
use Rattle.std.specs.List.{list_all}
use Rattle.hz_core.specs.Netlist.{Netlist}
use Rattle.hz_bounds.specs.declared.range.EdgeClass.{EdgeClass}
use Rattle.hz_bounds.specs.declared.range.EdgeClass.TheVariants.{Steady, Single, Static, MaybeStatic, Dynamic, MaybeDynamic, Unsettled as UnsettledClass}
use Rattle.hz_states.specs.States.{has_state}
use Rattle.hz_orders.specs.declared.order.Order.{Order}
use Rattle.hz_timing.specs.declared.script.Assumption.{Assumption}
use Rattle.hz_edge_reports.specs.EdgeChanges.{ChangeOf}
use Rattle.hz_explore.specs.declared.counting.Classes.{Classes}
use Rattle.hz_explore.specs.declared.counting.Totals.{Totals}
use Rattle.hz_explore.specs.Transitions.{Outcome, Settled, Unsettled, Transition, ends_of, node_classes}

-- a node has one of the classes
abbrev pub is_single : EdgeClass → Bool
is_single Steady = false
is_single Single = true
is_single Static = false
is_single MaybeStatic = false
is_single Dynamic = false
is_single MaybeDynamic = false
is_single UnsettledClass = false

abbrev pub is_static : EdgeClass → Bool
is_static Steady = false
is_static Single = false
is_static Static = true
is_static MaybeStatic = false
is_static Dynamic = false
is_static MaybeDynamic = false
is_static UnsettledClass = false

abbrev pub is_maybe_static : EdgeClass → Bool
is_maybe_static Steady = false
is_maybe_static Single = false
is_maybe_static Static = false
is_maybe_static MaybeStatic = true
is_maybe_static Dynamic = false
is_maybe_static MaybeDynamic = false
is_maybe_static UnsettledClass = false

abbrev pub is_dynamic : EdgeClass → Bool
is_dynamic Steady = false
is_dynamic Single = false
is_dynamic Static = false
is_dynamic MaybeStatic = false
is_dynamic Dynamic = true
is_dynamic MaybeDynamic = false
is_dynamic UnsettledClass = false

abbrev pub is_maybe_dynamic : EdgeClass → Bool
is_maybe_dynamic Steady = false
is_maybe_dynamic Single = false
is_maybe_dynamic Static = false
is_maybe_dynamic MaybeStatic = false
is_maybe_dynamic Dynamic = false
is_maybe_dynamic MaybeDynamic = true
is_maybe_dynamic UnsettledClass = false

-- a node of this class never changes, or changes once
abbrev pub is_clean_class : EdgeClass → Bool
is_clean_class Steady = true
is_clean_class Single = true
is_clean_class Static = false
is_clean_class MaybeStatic = false
is_clean_class Dynamic = false
is_clean_class MaybeDynamic = false
is_clean_class UnsettledClass = false

-- a node of this class is steady, or the line of its transition counts it; maybe-static ones are counted if something is assumed
abbrev pub is_told_class : List Assumption → EdgeClass → Bool
is_told_class assumptions Steady = true
is_told_class assumptions Single = true
is_told_class assumptions Static = true
is_told_class [] MaybeStatic = false
is_told_class (one ∷ assumptions) MaybeStatic = true
is_told_class assumptions Dynamic = true
is_told_class assumptions MaybeDynamic = true
is_told_class assumptions UnsettledClass = false

-- in a transition that settles each node is steady or counted
abbrev pub AreTold : Netlist → List Assumption → ChangeOf → Outcome → Type 0
AreTold netlist assumptions found (Settled next) =
    All (λ class. is_told_class assumptions class ≡ true) (node_classes netlist found)
AreTold netlist assumptions found (Unsettled var) = Unit {0}

-- a run that keeps the orders is shown, or there are none
abbrev pub is_shown : List Order → Bool → Bool
is_shown [] kept = true
is_shown (order ∷ orders) kept = kept

-- What a transition counts as. It is not settled if a variable is unsettled. It is clean if each node is steady or single, and a run that
-- keeps the orders it uses is shown. Else it has a hazard.
pub data Count : Type 0 where
  Clean : Count
  Hazard : Count
  NotSettled : Count

abbrev pub count_if : Bool → Count
count_if true = Clean
count_if false = Hazard

abbrev pub is_clean_change : Netlist → ChangeOf → Bool
is_clean_change netlist found =
    list_all is_clean_class (node_classes netlist found) && is_shown found.used found.kept

abbrev pub count_of_outcome : Netlist → ChangeOf → Outcome → Count
count_of_outcome netlist found (Settled next) = count_if (is_clean_change netlist found)
count_of_outcome netlist found (Unsettled var) = NotSettled

abbrev pub transition_count : Netlist → Transition → Count
transition_count netlist transition =
    count_of_outcome netlist transition.found transition.outcome

abbrev pub is_clean : Count → Bool
is_clean Clean = true
is_clean Hazard = false
is_clean NotSettled = false

abbrev pub is_hazard : Count → Bool
is_hazard Clean = false
is_hazard Hazard = true
is_hazard NotSettled = false

abbrev pub is_not_settled : Count → Bool
is_not_settled Clean = false
is_not_settled Hazard = false
is_not_settled NotSettled = true

-- how many nodes are of each class
abbrev pub classes_of : List EdgeClass → Classes
classes_of classes =
    record {
      single = count_by is_single classes;
      statics = count_by is_static classes;
      maybe_static = count_by is_maybe_static classes;
      dynamic = count_by is_dynamic classes;
      maybe_dynamic = count_by is_maybe_dynamic classes;
      is_clean = list_all is_clean_class classes;
    }

-- how many transitions are of each kind, and whether each that settles ends in one of these states
abbrev pub totals_of : Netlist → List (List Bool) → List Transition → Totals
totals_of netlist states transitions =
    record {
      clean = count_by (λ one. is_clean (transition_count netlist one)) transitions;
      hazards = count_by (λ one. is_hazard (transition_count netlist one)) transitions;
      unsettled = count_by (λ one. is_not_settled (transition_count netlist one)) transitions;
      is_whole = list_all (has_state states) (ends_of netlist transitions);
    }
