use Rattle.std.proofs.Common.{◌∙◌, ◌+◌, ◌<◌, ℕ, List, length, map, sym, ap, subst}
use Rattle.std.specs.Prelude.{All}
use Rattle.hz_netlist.specs.declared.draft.Source.{Source}
use Rattle.hz_netlist.specs.Draft.{ReadsNameBelow, drafted, source_node}
use Rattle.hz_netlist.specs.Names.{node_of}
use Rattle.hz_netlist.proofs.DraftLaws.{build-circuit, build-cuts, build-data, build-gates, build-inputs, build-outputs, build-pins, few-nodes, table-long}
use Rattle.hz_netlist.proofs.draft.build_draft.Goals as goal

pub add_inputs-requires-clause-may : goal.add_inputs-requires-clause-may
add_inputs-requires-clause-may c = rw (c.in_ok-circuit.ensures) (build-inputs c.requires.0 (drafted c.args.draft.now) c.requires.1)

pub add_cuts-requires-clause-may : goal.add_cuts-requires-clause-may
add_cuts-requires-clause-may c = rw (c.in_ok-add_inputs.ensures, c.in_ok-circuit.ensures) (build-cuts c.requires.0 (drafted c.args.draft.now) c.requires.1)

pub add_gates-requires-clause-may : goal.add_gates-requires-clause-may
add_gates-requires-clause-may c = rw (c.in_ok-add_cuts.ensures, c.in_ok-add_inputs.ensures, c.in_ok-circuit.ensures) (build-gates c.requires.0 (drafted c.args.draft.now) c.requires.1)

pub number_nodes-requires-clause-few : goal.number_nodes-requires-clause-few
number_nodes-requires-clause-few c = few-nodes c.requires.0 (drafted c.args.draft.now) c.requires.1

pub resolve_sources-requires-clause-names : goal.resolve_sources-requires-clause-names
resolve_sources-requires-clause-names c =
    let long = table-long c.requires.0 (drafted c.args.draft.now) c.requires.1 c.in_ok-nodes.nodes.items c.in_ok-nodes.ensures in
    rw (c.as_slice.ensures.value) (subst (λ (count : ℕ). All (ReadsNameBelow count) c.args.draft.now.cut_sources.now) (sym long) c.requires.1.data_numbers)

pub resolve_sources-requires-clause-gates : goal.resolve_sources-requires-clause-gates
resolve_sources-requires-clause-gates c = (length c.args.draft.now.gates.now, few-nodes c.requires.0 (drafted c.args.draft.now) c.requires.1, c.requires.1.data_gates)

pub set_data-requires : goal.set_data-requires
set_data-requires c =
    let reads = λ (sources : List Source) (nodes : List ℕ). map (source_node nodes (length c.args.draft.now.inputs.now + length c.args.draft.now.cuts.now)) sources in
    let data_read = c.in_ok-cut_sources.ensures ∙ ap (reads c.args.draft.now.cut_sources.now) c.as_slice.ensures.value in
    rw (c.in_ok-add_gates.ensures, c.in_ok-add_cuts.ensures, c.in_ok-add_inputs.ensures, c.in_ok-circuit.ensures, c.as_slice-2.ensures.value)
    (build-data c.requires.0 (drafted c.args.draft.now) c.requires.1 c.in_ok-nodes.nodes.items c.in_ok-cut_sources.cut_sources.items c.in_ok-nodes.ensures data_read)

pub resolve_sources-requires-2-clause-names : goal.resolve_sources-requires-2-clause-names
resolve_sources-requires-2-clause-names c =
    let long = table-long c.requires.0 (drafted c.args.draft.now) c.requires.1 c.in_ok-nodes.nodes.items c.in_ok-nodes.ensures in
    rw (c.as_slice-3.ensures.value) (subst (λ (count : ℕ). All (ReadsNameBelow count) c.args.draft.now.sources.now) (sym long) c.requires.1.source_numbers)

pub resolve_sources-requires-2-clause-gates : goal.resolve_sources-requires-2-clause-gates
resolve_sources-requires-2-clause-gates c = (length c.args.draft.now.gates.now, few-nodes c.requires.0 (drafted c.args.draft.now) c.requires.1, c.requires.1.source_gates)

pub connect_gates-requires : goal.connect_gates-requires
connect_gates-requires c =
    let reads = λ (sources : List Source) (nodes : List ℕ). map (source_node nodes (length c.args.draft.now.inputs.now + length c.args.draft.now.cuts.now)) sources in
    let data_read = c.in_ok-cut_sources.ensures ∙ ap (reads c.args.draft.now.cut_sources.now) c.as_slice.ensures.value in
    let read = c.in_ok-pins.ensures ∙ ap (reads c.args.draft.now.sources.now) c.as_slice-3.ensures.value in
    rw (c.set_data.ensures, c.inputs-first.ensures.inputs, c.in_ok-add_gates.ensures, c.in_ok-add_cuts.ensures, c.in_ok-add_inputs.ensures, c.in_ok-circuit.ensures, c.as_slice-2.ensures.value, c.as_slice-4.ensures.value)
    (build-pins c.requires.0 (drafted c.args.draft.now) c.requires.1 c.in_ok-nodes.nodes.items c.in_ok-cut_sources.cut_sources.items c.in_ok-pins.pins.items c.in_ok-nodes.ensures data_read read)

pub resolve-requires : goal.resolve-requires
resolve-requires c =
    let long = table-long c.requires.0 (drafted c.args.draft.now) c.requires.1 c.in_ok-nodes.nodes.items c.in_ok-nodes.ensures in
    rw (c.as_slice-5.ensures.value) (subst (λ (count : ℕ). All (λ number. number < count) c.args.draft.now.outputs.now) (sym long) c.requires.1.output_numbers)

pub add_outputs_and_data-requires : goal.add_outputs_and_data-requires
add_outputs_and_data-requires c =
    let reads = λ (sources : List Source) (nodes : List ℕ). map (source_node nodes (length c.args.draft.now.inputs.now + length c.args.draft.now.cuts.now)) sources in
    let data_read = c.in_ok-cut_sources.ensures ∙ ap (reads c.args.draft.now.cut_sources.now) c.as_slice.ensures.value in
    let read = c.in_ok-pins.ensures ∙ ap (reads c.args.draft.now.sources.now) c.as_slice-3.ensures.value in
    let named = c.in_ok-outputs.ensures ∙ ap (λ nodes. map (node_of nodes) c.args.draft.now.outputs.now) c.as_slice-5.ensures.value in
    rw (c.in_ok-connect_gates.ensures, c.set_data.ensures, c.inputs-first.ensures.inputs, c.in_ok-add_gates.ensures, c.in_ok-add_cuts.ensures, c.in_ok-add_inputs.ensures, c.in_ok-circuit.ensures, c.as_slice-2.ensures.value, c.as_slice-4.ensures.value, c.as_slice-6.ensures.value)
    (build-outputs c.requires.0 (drafted c.args.draft.now) c.requires.1 c.in_ok-nodes.nodes.items c.in_ok-cut_sources.cut_sources.items c.in_ok-pins.pins.items c.in_ok-nodes.ensures data_read read c.in_ok-outputs.outputs.items named)

pub returns : goal.returns
returns c = λ elements can.
    let reads = λ (sources : List Source) (nodes : List ℕ). map (source_node nodes (length c.args.draft.now.inputs.now + length c.args.draft.now.cuts.now)) sources in
    let data_read = c.in_ok-cut_sources.ensures ∙ ap (reads c.args.draft.now.cut_sources.now) c.as_slice.ensures.value in
    let read = c.in_ok-pins.ensures ∙ ap (reads c.args.draft.now.sources.now) c.as_slice-3.ensures.value in
    let named = c.in_ok-outputs.ensures ∙ ap (λ nodes. map (node_of nodes) c.args.draft.now.outputs.now) c.as_slice-5.ensures.value in
    rw (c.in_ok-add_outputs_and_data.ensures.ok, c.in_ok-connect_gates.ensures, c.set_data.ensures, c.inputs-first.ensures.inputs, c.in_ok-add_gates.ensures, c.in_ok-add_cuts.ensures, c.in_ok-add_inputs.ensures, c.in_ok-circuit.ensures, c.as_slice-2.ensures.value, c.as_slice-4.ensures.value, c.as_slice-6.ensures.value)
    (build-circuit elements (drafted c.args.draft.now) can c.in_ok-nodes.nodes.items c.in_ok-cut_sources.cut_sources.items c.in_ok-pins.pins.items c.in_ok-nodes.ensures data_read read c.in_ok-outputs.outputs.items named)
