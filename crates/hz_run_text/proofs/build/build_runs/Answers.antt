use Rattle.std.proofs.Common.{◌≡◌, ◌∙◌, ◌-◌, List, None, false, ◌∷◌, ◌++◌, length, get_or, take, drop, map, ap, sym, subst, arith}
use Rattle.std.specs.List.{All, list_any, range_with_len}
use Rattle.std.specs.Option.{is_none}
use Rattle.std.proofs.lemmas.List.{length-drop, take_all}
use Rattle.hz_run_text.specs.declared.order.Place.TheVariants as at
use Rattle.hz_run_text.specs.RunStatement.{Start, Input}
use Rattle.hz_run_text.specs.RunResolution.{RunEntry, numbered_run_resolutions, run_resolution_of}
use Rattle.hz_run_text.specs.RunOrder.{first_misplaced}
use Rattle.hz_run_text.specs.RunFault.{variables_in}
use Rattle.hz_run_text.specs.RunText.{IsRunTextBy, header_lines, statements_without_lines}
use Rattle.hz_run_text.specs.RunBuilt.{after_header}
use Rattle.hz_run_text.specs.RunRules.{AssignsBelow, first_run_fault}
use Rattle.hz_core.specs.Netlist.{Netlist}
use Rattle.hz_run_text.specs.RunValue.{RunTextOf}
use Rattle.hz_text.specs.Assignment.{assigned_bit}
use Rattle.hz_run_text.proofs.RunBuildLaws.{IsReady, states_of, ready, assigned_at}
use Rattle.hz_run_text.proofs.build.build_runs.Goals as goal

-- the first two of the statements from the start on
abbrev Ready : Netlist → List RunEntry → RunEntry → RunEntry → Type 0
Ready netlist entries start input = IsReady netlist (after_header entries) (assigned_at start) (assigned_at input)

two_of :
    (netlist : Netlist) (entries states : List RunEntry) (start input : RunEntry) → states ≡ after_header entries → start ≡ get_or states 0 start → input ≡ get_or states 1 input →
    All (AssignsBelow (length netlist.names)) entries → first_run_fault netlist (numbered_run_resolutions entries) ≡ None → Ready netlist entries start input
two_of netlist entries states start input are s i below clear =
    ready netlist entries start input (s ∙ ap (λ list. get_or list 0 start) are) (i ∙ ap (λ list. get_or list 1 input) are) below clear

pub read_bits-requires : goal.read_bits-requires
read_bits-requires c =
    rw (c.nodes.ensures.nodes, c.assignments_in.ensures)
    (two_of c.args.circuit.now c.args.entries.now c.after_header-states.result.now c.start-item.result c.input-item.result c.after_header-states.ensures c.start-item.is c.input-item.is c.requires.below c.requires.clear).start_is

pub read_bits-requires-2 : goal.read_bits-requires-2
read_bits-requires-2 c =
    rw (c.inputs.ensures.inputs, c.assignments_in-2.ensures)
    (two_of c.args.circuit.now c.args.entries.now c.after_header-states.result.now c.start-item.result c.input-item.result c.after_header-states.ensures c.start-item.is c.input-item.is c.requires.below c.requires.clear).input_is

-- all behind the first two
later_are : (states entries : List RunEntry) → states ≡ after_header entries → take (length states - 2) (drop 2 states) ≡ drop 2 (after_header entries)
later_are states entries are =
    take_all (length states - 2) (drop 2 states) (omega (arith, length-drop 2 states)) ∙ ap (drop 2) are

pub read_runs-requires-clause-ordered : goal.read_runs-requires-clause-ordered
read_runs-requires-clause-ordered c =
    let P : List RunEntry → Type 0 = λ later. first_misplaced at.Runs (numbered_run_resolutions later) ≡ None in
    subst P (sym (later_are c.after_header-states.result.now c.args.entries.now c.after_header-states.ensures))
    (two_of c.args.circuit.now c.args.entries.now c.after_header-states.result.now c.start-item.result c.input-item.result c.after_header-states.ensures c.start-item.is c.input-item.is c.requires.below c.requires.clear).ordered

pub read_runs-requires-clause-known : goal.read_runs-requires-clause-known
read_runs-requires-clause-known c =
    let P : List RunEntry → Type 0 = λ later. All (λ entry. list_any is_none (variables_in (run_resolution_of entry.held)) ≡ false) later in
    subst P (sym (later_are c.after_header-states.result.now c.args.entries.now c.after_header-states.ensures))
    (two_of c.args.circuit.now c.args.entries.now c.after_header-states.result.now c.start-item.result c.input-item.result c.after_header-states.ensures c.start-item.is c.input-item.is c.requires.below c.requires.clear).known

pub returns : goal.returns
returns c =
    let entries = c.args.entries.now in
    let states = c.after_header-states.result.now in
    let start = assigned_at c.start-item.result in
    let input = assigned_at c.input-item.result in
    let is = two_of c.args.circuit.now entries states c.start-item.result c.input-item.result c.after_header-states.ensures c.start-item.is c.input-item.is c.requires.below c.requires.clear in
    let from = (states_of c.args.circuit.now entries c.requires.below c.requires.clear).is in
    let P : RunTextOf → Type 0 = IsRunTextBy c.args.circuit.now (statements_without_lines (numbered_run_resolutions entries)) in
    subst P (sym c.of.ensures) (record {
      size = from.size;
      start = start;
      input = input;
      are =
          from.front
          ∙ ap (λ rest. header_lines from.size ++ rest) (
          is.front
          ∙ ap (λ later. Start start ∷ Input input ∷ statements_without_lines (numbered_run_resolutions later)) (sym (later_are states entries c.after_header-states.ensures))
          ∙ ap (λ rest. Start start ∷ Input input ∷ rest) c.in_ok-runs.ensures
          );
      nodes_are =
          c.in_ok-nodes.ensures
          ∙ ap (λ all. map (assigned_bit all) (range_with_len 0 c.nodes.result)) c.assignments_in.ensures
          ∙ ap (λ nodes. map (assigned_bit start) (range_with_len 0 nodes)) c.nodes.ensures.nodes;
      input_is =
          c.in_ok-input.ensures
          ∙ ap (λ all. map (assigned_bit all) (range_with_len 0 c.inputs.result)) c.assignments_in-2.ensures
          ∙ ap (λ inputs. map (assigned_bit input) (range_with_len 0 inputs)) c.inputs.ensures.inputs;
    })
