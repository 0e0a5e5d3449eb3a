-- What the passes over a run text's statements answer.
use Rattle.std.specs.Prelude.{◌≡◌, ℕ, Bool, List, length, All, Option, Some, None}
use Rattle.hz_lists.specs.Least.{option_min}
use Rattle.hz_core.specs.Netlist.{Netlist}
use Rattle.hz_line.specs.Statement.{Numbered}
use Rattle.hz_text.specs.Assignment.{Assigned, any_bitless}
use Rattle.hz_text.specs.declared.fault.TextFault.{TextFault}
use Rattle.hz_run_text.specs.declared.order.Place.TheVariants as at
use Rattle.hz_run_text.specs.RunSize.{size_of}
use Rattle.hz_text.specs.Rules.{repeats_node, least_unassigned, AreBelow, Rules, first_fault_in}
use Rattle.hz_run_text.specs.RunResolution.{ResolvedRunStatement, RunEntry, run_resolution_of, numbered_run_resolutions}
use Rattle.hz_run_text.specs.RunFault.{resolved_run_statements, IsRunFaultless, assignments_in, names_unknown, is_start_line, is_input_line, first_assigned, beyond_from, first_mismatch}
use Rattle.hz_run_text.specs.RunOrder.{first_misplaced}

-- the statement assigns a node twice
abbrev pub names_node_twice : ResolvedRunStatement → Bool
names_node_twice statement = repeats_node (assignments_in statement)

-- the statement assigns a word that is no bit
abbrev pub lacks_bit : ResolvedRunStatement → Bool
lacks_bit statement = any_bitless (assignments_in statement)

-- what the first start assigns, and what the first input line does
abbrev pub first_start : List (Numbered ResolvedRunStatement) → Option (List Assigned)
first_start statements = first_assigned is_start_line statements

abbrev pub first_input : List (Numbered ResolvedRunStatement) → Option (List Assigned)
first_input statements = first_assigned is_input_line statements

-- the nodes that an entry assigns are below a bound
abbrev pub AssignsBelow : ℕ → RunEntry → Type 0
AssignsBelow nodes entry = AreBelow nodes (assignments_in (run_resolution_of entry.held))

-- the least of so many nodes that the assignments leave out, if they are there
abbrev pub least_left_out : Option (List Assigned) → ℕ → Option ℕ
least_left_out None nodes = None
least_left_out (Some assigned) nodes = least_unassigned nodes assigned

-- the least node that the first start leaves out or input that the first input line leaves out
abbrev pub least_missing_node : Netlist → List (Numbered ResolvedRunStatement) → Option ℕ
least_missing_node netlist statements =
    option_min (least_left_out (first_start statements) (length netlist.names))
    (least_left_out (first_input statements) netlist.inputs)

-- the passes over a run text of a circuit
abbrev pub run_rules : Netlist → Rules ResolvedRunStatement
run_rules netlist = record {
  unknown = names_unknown netlist.inputs;
  assigned = assignments_in;
  bitless = lacks_bit;
  missing = least_missing_node netlist;
  order = first_misplaced at.Header;
  beyond = beyond_from 0 0;
  mismatch = first_mismatch (size_of netlist);
}

-- what the passes answer, one after the other
abbrev pub first_run_fault : Netlist → List (Numbered ResolvedRunStatement) → Option TextFault
first_run_fault netlist statements = first_fault_in (run_rules netlist) statements

-- the statements of a text in which no fault stands
pub record IsAcceptedRunText (netlist : Netlist) (text : List ℕ)
    (entries : List RunEntry) : Type 0 where
  pub below : All (AssignsBelow (length netlist.names)) entries
  pub statements : numbered_run_resolutions entries ≡ resolved_run_statements netlist text
  pub clear : first_run_fault netlist (numbered_run_resolutions entries) ≡ None
  pub faultless : IsRunFaultless netlist text
