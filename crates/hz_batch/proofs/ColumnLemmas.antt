-- Values of variables in all lanes, as they are kept one after the other.
use Rattle.std.proofs.Common.{◌≡◌, ◌≢◌, ◌∙◌, sym, subst, ℕ, ◌+◌, ◌<◌, ◌≤◌, List, length, set, get_or, Option, arith, inl, inr}
use Rattle.std.specs.Prelude.{◌⊎◌}
use Rattle.std.proofs.lemmas.Bool.{cases_eq}
use Rattle.std.proofs.lemmas.List.{length-set, get_or-set_same, get_or-set_other}
use Rattle.hz_core.specs.Netlist.{Netlist}
use Rattle.hz_plane.specs.declared.stage.Stage.{Stage}
use Rattle.hz_plane.specs.declared.values.LaneValues.{LaneValues}
use Rattle.hz_plane.specs.Loads.{Loaded}
use Rattle.hz_batch.specs.Columns.{IsColumn, AreColumns, no_values}

-- the columns of the variables so far
pub record AreColumnsBelow (netlist : Netlist) (stage : Stage) (lanes : List (Option Loaded)) (variables : List ℕ) (end : ℕ) (columns : List LaneValues) : Type 0 where
  pub count : length columns ≡ length variables
  pub each : (place : ℕ) → place < end → IsColumn netlist stage lanes (get_or variables place 0) (get_or columns place no_values)

pub columns-none : (netlist : Netlist) (stage : Stage) (lanes : List (Option Loaded)) (variables : List ℕ) (columns : List LaneValues) → length columns ≡ length variables → AreColumnsBelow netlist stage lanes variables 0 columns
columns-none netlist stage lanes variables columns count = record {
  count = count;
  each = λ place below. absurd (omega (arith, below));
}

pub columns-next : (netlist : Netlist) (stage : Stage) (lanes : List (Option Loaded)) (variables : List ℕ) (end : ℕ) (columns : List LaneValues) (column : LaneValues) → end < length variables → AreColumnsBelow netlist stage lanes variables end columns →
    IsColumn netlist stage lanes (get_or variables end 0) column → AreColumnsBelow netlist stage lanes variables (end + 1) (set columns end column)
columns-next netlist stage lanes variables end columns column inside before here = record {
  count = length-set columns end column ∙ before.count;
  each = λ place below. by_place place below (cases_eq place end);
}
  where
    by_place : (place : ℕ) → place < end + 1 → (place ≡ end) ⊎ (place ≢ end) → IsColumn netlist stage lanes (get_or variables place 0) (get_or (set columns end column) place no_values)
    by_place place below (inl same) =
        let is : get_or (set columns end column) place no_values ≡ column = rw same (get_or-set_same columns end column no_values (omega (arith, inside, before.count))) in
        subst (λ (values : LaneValues). IsColumn netlist stage lanes (get_or variables place 0) values) (sym is) (rw same here)
    by_place place below (inr other) =
        subst (λ (values : LaneValues). IsColumn netlist stage lanes (get_or variables place 0) values) (sym (get_or-set_other columns end place column no_values other)) (before.each place (omega (arith, below, other)))

pub columns-whole : (netlist : Netlist) (stage : Stage) (lanes : List (Option Loaded)) (variables : List ℕ) (end : ℕ) (columns : List LaneValues) → length variables ≤ end → AreColumnsBelow netlist stage lanes variables end columns → AreColumns netlist stage lanes variables columns
columns-whole netlist stage lanes variables end columns all before = λ place inside. before.each place (omega (arith, inside, all))
