-- The circuit of a draft that can be built is that of its elements.
use Rattle.std.proofs.Common.{◌≡◌, ◌∙◌, refl, sym, ap, subst, ℕ, ◌+◌, ◌<◌, ◌≤◌, true, false, List, [], ◌∷◌, ◌++◌, Some, length, map, fold, length-append, append_assoc, add-zero, arith}
use Rattle.std.specs.Prelude.{All}
use Rattle.std.specs.List.{AllByRecursion, IsDistinct, list_any}
use Rattle.std.specs.Str.{bytes_eq}
use Rattle.std.proofs.lemmas.List.{length-map}
use Rattle.std.proofs.lemmas.List.Elements.{All-cons, All-nil}
use Rattle.std.proofs.lemmas.Simd.{map-map}
use Rattle.hz_core.specs.Limits.{most_variables}
use Rattle.hz_core.specs.Netlist.{Netlist, IsCircuit, IsName, empty_netlist, primary_inputs, with_output}
use Rattle.hz_core.proofs.CircuitLemmas.{same_netlist}
use Rattle.hz_netlist.proofs.Circuits.{are_names, built_circuit, data-known, data-long, each_once-append, known-below, numbers-below, outputs-added, outputs-known, pins_of}
use Rattle.hz_netlist.proofs.DraftNodes.{AreNodesOf, nodes-gates, nodes-named, outputs-numbers, sources-numbered}
use Rattle.hz_netlist.proofs.DraftSteps.{bare, cuts-added, data-added, data-given, entries-made, entries-named, entries-right, gates-added, gates-all, gates-made, gates-named, gates_by, inputs-added, named-known, outputs-may, pins-given, pins-total, sources-known, unset, unset-long}
use Rattle.hz_netlist.specs.declared.draft.Source.{Source}
use Rattle.hz_netlist.specs.Build.{Apart, AreAdmissibleSteps, AreKnown, HasNode, HasRightPins, UsesKnown, with_data_outputs}
use Rattle.hz_netlist.specs.Circuit.{add_once, all_inputs, circuit_of_elements, data_nodes, each_once, gates_of, node_names, number_in}
use Rattle.hz_netlist.specs.Draft.{AreNodesBy, Drafted, IsBuildable, MayAddCutNumbered, MayAddGateEntry, MayAddInputNumbered, MayAddPinsBy, MaySetDataBy, ReadsGateBelow, ReadsNameBelow, gate_name, made_names, source_name, source_node, with_cut_numbered, with_data_by, with_gate_entry, with_gate_nodes, with_nodes_from, with_input_numbered, with_pins_by}
use Rattle.hz_netlist.specs.Element.{Element, cut_names, data_names, gate_names, input_names, output_names}
use Rattle.hz_netlist.specs.Names.{name_at, names_at, node_of}

-- the circuit with the inputs, with the cuts too, and with the gates
abbrev pub with_inputs : Drafted → Netlist
with_inputs draft = record { names = names_at draft.names draft.inputs; inputs = 0 + length draft.inputs; cuts = []; gates = []; outputs = [] }

abbrev pub with_cuts : Drafted → Netlist
with_cuts draft =
    record {
      names = names_at draft.names draft.inputs ++ names_at draft.names draft.cuts;
      inputs = (0 + length draft.inputs) + length draft.cuts;
      cuts = unset draft.cuts;
      gates = [];
      outputs = [];
    }

abbrev pub with_gates : Drafted → Netlist
with_gates draft = record (with_cuts draft) { names = (names_at draft.names draft.inputs ++ names_at draft.names draft.cuts) ++ made_names draft; gates = bare draft.gates }

-- where the first steps lead
abbrev pub inputs_built : Drafted → Netlist
inputs_built draft = fold (with_input_numbered (name_at draft.names)) empty_netlist draft.inputs

abbrev pub cuts_built : Drafted → Netlist
cuts_built draft = fold (with_cut_numbered (name_at draft.names)) (fold (with_input_numbered (name_at draft.names)) empty_netlist draft.inputs) draft.cuts

abbrev pub gates_built : Drafted → Netlist
gates_built draft =
    fold (with_gate_entry (name_at draft.names))
    (fold (with_cut_numbered (name_at draft.names)) (fold (with_input_numbered (name_at draft.names)) empty_netlist draft.inputs) draft.cuts) draft.gates

module _ (elements : List Element) (draft : Drafted) (can : IsBuildable elements draft) where
  circuit : IsCircuit (circuit_of_elements elements)
  circuit = built_circuit elements can.wired

  gates_same : gate_names elements ≡ made_names draft
  gates_same = sym (gates-named elements) ∙ (ap gate_names (sym can.has.gates) ∙ entries-named (name_at draft.names) (made_names draft) draft.gates draft.sources)

  front_same : all_inputs elements ≡ names_at draft.names draft.inputs ++ names_at draft.names draft.cuts
  front_same = ap (λ names. names ++ cut_names elements) (sym can.has.inputs) ∙ ap (λ names. names_at draft.names draft.inputs ++ names) (sym can.has.cuts)

  nodes_same : node_names elements ≡ (names_at draft.names draft.inputs ++ names_at draft.names draft.cuts) ++ made_names draft
  nodes_same = ap (λ names. names ++ gate_names elements) front_same ∙ ap (λ names. (names_at draft.names draft.inputs ++ names_at draft.names draft.cuts) ++ names) gates_same

  front_long : length (all_inputs elements) ≡ length draft.inputs + length draft.cuts
  front_long =
      omega (arith, ap length front_same, length-append (names_at draft.names draft.inputs) (names_at draft.names draft.cuts), length-map draft.inputs (name_at draft.names), length-map draft.cuts (name_at draft.names))

  nodes_long : length (node_names elements) ≡ length draft.inputs + length draft.cuts + length draft.gates
  nodes_long = omega (arith, length-append (all_inputs elements) (gate_names elements), front_long, ap length gates_same, length-map draft.gates (gate_name (name_at draft.names)))

  -- there are not too many nodes
  pub few-nodes : length draft.inputs + length draft.cuts + length draft.gates ≤ most_variables
  few-nodes = let variables = circuit.variables in omega (arith, variables, nodes_long)

  -- inputs, cuts and gates
  inputs_added : AreAdmissibleSteps (MayAddInputNumbered (name_at draft.names)) (with_input_numbered (name_at draft.names)) empty_netlist draft.inputs × (inputs_built draft ≡ with_inputs draft)
  inputs_added =
      let few = few-nodes in
      inputs-added (name_at draft.names) empty_netlist draft.inputs refl refl (subst (All IsName) (sym can.has.inputs) (are_names elements can.wired.named).inputs)
      (subst (Apart []) (sym can.has.inputs) can.wired.inputs_apart) (omega (arith, few))

  pub build-inputs : AreAdmissibleSteps (MayAddInputNumbered (name_at draft.names)) (with_input_numbered (name_at draft.names)) empty_netlist draft.inputs
  build-inputs = inputs_added.0

  cuts_added : AreAdmissibleSteps (MayAddCutNumbered (name_at draft.names)) (with_cut_numbered (name_at draft.names)) (inputs_built draft) draft.cuts × (cuts_built draft ≡ with_cuts draft)
  cuts_added =
      let few = few-nodes in
      subst (λ now. AreAdmissibleSteps (MayAddCutNumbered (name_at draft.names)) (with_cut_numbered (name_at draft.names)) now draft.cuts
      × (fold (with_cut_numbered (name_at draft.names)) now draft.cuts ≡ with_cuts draft)) (sym inputs_added.1)
      (cuts-added (name_at draft.names) (with_inputs draft) draft.cuts refl (subst (All IsName) (sym can.has.cuts) (are_names elements can.wired.named).cuts)
      (subst (λ front. Apart front (names_at draft.names draft.cuts)) (sym can.has.inputs) (subst (Apart (input_names elements)) (sym can.has.cuts) can.wired.cuts_apart))
      (omega (arith, few, length-map draft.inputs (name_at draft.names))))

  pub build-cuts : AreAdmissibleSteps (MayAddCutNumbered (name_at draft.names)) (with_cut_numbered (name_at draft.names)) (inputs_built draft) draft.cuts
  build-cuts = cuts_added.0

  gates_added : AreAdmissibleSteps (MayAddGateEntry (name_at draft.names)) (with_gate_entry (name_at draft.names)) (cuts_built draft) draft.gates × (gates_built draft ≡ with_gates draft)
  gates_added =
      let few = few-nodes in
      subst (λ now. AreAdmissibleSteps (MayAddGateEntry (name_at draft.names)) (with_gate_entry (name_at draft.names)) now draft.gates
      × (fold (with_gate_entry (name_at draft.names)) now draft.gates ≡ with_gates draft)) (sym cuts_added.1)
      (gates-added (name_at draft.names) (with_cuts draft) draft.gates (subst (All IsName) gates_same (are_names elements can.wired.named).gates)
      (subst (λ front. Apart front (made_names draft)) front_same (subst (Apart (all_inputs elements)) gates_same can.wired.gates_apart))
      (omega (arith, few, length-append (names_at draft.names draft.inputs) (names_at draft.names draft.cuts), length-map draft.inputs (name_at draft.names), length-map draft.cuts (name_at draft.names))))

  pub build-gates : AreAdmissibleSteps (MayAddGateEntry (name_at draft.names)) (with_gate_entry (name_at draft.names)) (cuts_built draft) draft.gates
  build-gates = gates_added.0

  -- the table of nodes
  table : (nodes : List ℕ) → AreNodesBy draft nodes → AreNodesOf draft.names (node_names elements) (node_names elements) nodes × (length nodes ≡ length draft.names)
  table nodes by =
      let names = draft.names in
      let all = node_names elements in
      let inputs = names_at draft.names draft.inputs in
      let cuts = names_at draft.names draft.cuts in
      let start = by.0 in
      let moved = nodes_same ∙ append_assoc inputs cuts (made_names draft) in
      let none : AreNodesOf names all [] start = λ number few among. let e : false ≡ true = among in cc in
      let first = nodes-named names all can.distinct circuit.names_distinct [] (cuts ++ made_names draft) start draft.inputs moved can.input_numbers by.1 none in
      let begun = with_nodes_from 0 start draft.inputs in
      let second = nodes-named names all can.distinct circuit.names_distinct inputs (made_names draft) begun draft.cuts moved can.cut_numbers first.1 first.0 in
      let named = with_nodes_from (length inputs) begun draft.cuts in
      let last = nodes-gates names all can.distinct circuit.names_distinct (inputs ++ cuts) named draft.gates nodes_same can.gate_numbers can.gate_names second.1 second.0 in
      let long : length (inputs ++ cuts) ≡ length draft.inputs + length draft.cuts = ap length (sym front_same) ∙ front_long in
      subst (λ nodes. AreNodesOf names all all nodes × (length nodes ≡ length names))
      (ap (λ (node : ℕ). with_gate_nodes node named draft.gates) long
      ∙ (ap (λ (node : ℕ). with_gate_nodes (length draft.inputs + length draft.cuts) (with_nodes_from node begun draft.cuts) draft.gates) (length-map draft.inputs (name_at draft.names))
      ∙ sym by.2)) last

  pub table-long : (nodes : List ℕ) → AreNodesBy draft nodes → length nodes ≡ length draft.names
  table-long nodes by = (table nodes by).1

  -- what sources read
  read-names : (nodes : List ℕ) → AreNodesBy draft nodes → (sources : List Source) → All (ReadsNameBelow (length draft.names)) sources → All (ReadsGateBelow (length draft.gates)) sources
      → AllByRecursion (λ source. list_any (bytes_eq (source_name (name_at draft.names) (made_names draft) source)) (node_names elements) ≡ true) sources
      → map (source_node nodes (length draft.inputs + length draft.cuts)) sources ≡ map (λ source. number_in (node_names elements) (source_name (name_at draft.names) (made_names draft) source)) sources
  read-names nodes by sources below among known =
      let front = names_at draft.names draft.inputs ++ names_at draft.names draft.cuts in
      let made = made_names draft in
      let few = subst (λ (count : ℕ). All (ReadsGateBelow count) sources) (sym (length-map draft.gates (gate_name (name_at draft.names)))) among in
      ap (λ (count : ℕ). map (source_node nodes count) sources) (sym (ap length (sym front_same) ∙ front_long))
      ∙ (sources-numbered draft.names front made nodes sources (subst (IsDistinct bytes_eq) nodes_same circuit.names_distinct)
      (subst (λ all. AreNodesOf draft.names all all nodes) nodes_same (table nodes by).0) below few
      (subst (λ all. AllByRecursion (λ source. list_any (bytes_eq (source_name (name_at draft.names) (made_names draft) source)) all ≡ true) sources) nodes_same known)
      ∙ ap (λ all. map (λ source. number_in all (source_name (name_at draft.names) (made_names draft) source)) sources) (sym nodes_same))

  -- data nodes
  data_known : AreKnown (node_names elements) (data_names elements)
  data_known = data-known (node_names elements) elements can.wired.defined

  data_are : (nodes cut_sources : List ℕ) → AreNodesBy draft nodes → cut_sources ≡ map (source_node nodes (length draft.inputs + length draft.cuts)) draft.cut_sources → cut_sources ≡ data_nodes (node_names elements) elements
  data_are nodes cut_sources by read =
      let all = node_names elements in
      let reads = source_name (name_at draft.names) (made_names draft) in
      let known = named-known (name_at draft.names) (made_names draft) all draft.cut_sources (subst (AreKnown all) (sym can.has.cut_sources) data_known) in
      read ∙ (read-names nodes by draft.cut_sources can.data_numbers can.data_gates known
      ∙ (sym (map-map (number_in all) reads draft.cut_sources) ∙ ap (map (number_in all)) can.has.cut_sources))

  abbrev pub with_data_nodes : List ℕ → Netlist
  with_data_nodes nodes = record (with_gates draft) { cuts = map Some nodes }

  data_given : (nodes : List ℕ) → nodes ≡ data_nodes (node_names elements) elements
      → MaySetDataBy (gates_built draft) (primary_inputs (gates_built draft)) nodes × (with_data_by (gates_built draft) (primary_inputs (gates_built draft)) nodes ≡ with_data_nodes nodes)
  data_given nodes are =
      let few = few-nodes in
      let count : length nodes ≡ length draft.cuts = ap length are ∙ (length-map (data_names elements) (number_in (node_names elements)) ∙ (data-long elements ∙ (ap length (sym can.has.cuts) ∙ length-map draft.cuts (name_at draft.names)))) in
      let below = subst (λ nodes. All (λ node. node < length (node_names elements)) nodes) (sym are) (numbers-below (node_names elements) (data_names elements) data_known) in
      subst (λ now. MaySetDataBy now (primary_inputs now) nodes × (with_data_by now (primary_inputs now) nodes ≡ with_data_nodes nodes)) (sym gates_added.1)
      (data-given (with_gates draft) (primary_inputs (with_gates draft)) [] (unset draft.cuts) nodes (unset-long draft.cuts ∙ sym count) (sym (add-zero (primary_inputs (with_gates draft))))
      (omega (arith, unset-long draft.cuts)) (omega (arith, few)) (subst (λ all. All (λ node. node < length all) nodes) nodes_same below))

  pub build-data : (nodes cut_sources : List ℕ) → AreNodesBy draft nodes → cut_sources ≡ map (source_node nodes (length draft.inputs + length draft.cuts)) draft.cut_sources
      → MaySetDataBy (gates_built draft) (primary_inputs (gates_built draft)) cut_sources
  build-data nodes cut_sources by read = (data_given cut_sources (data_are nodes cut_sources by read)).0

  -- pins
  module _ (nodes cut_sources pins : List ℕ) (by : AreNodesBy draft nodes) (data_read : cut_sources ≡ map (source_node nodes (length draft.inputs + length draft.cuts)) draft.cut_sources)
      (read : pins ≡ map (source_node nodes (length draft.inputs + length draft.cuts)) draft.sources) where
    abbrev pub given : Netlist
    given = with_data_by (gates_built draft) (primary_inputs (gates_built draft)) cut_sources

    sources_known : AllByRecursion (λ source. list_any (bytes_eq (source_name (name_at draft.names) (made_names draft) source)) (node_names elements) ≡ true) draft.sources
    sources_known =
        sources-known (name_at draft.names) (made_names draft) (node_names elements) draft.gates draft.sources can.sized
        (subst (AllByRecursion (UsesKnown (node_names elements))) (sym can.has.gates) (gates-all (UsesKnown (node_names elements)) elements can.wired.defined))

    pins_are : pins ≡ map (λ source. number_in (node_names elements) (source_name (name_at draft.names) (made_names draft) source)) draft.sources
    pins_are = read ∙ read-names nodes by draft.sources can.source_numbers can.source_gates sources_known

    gates_are : gates_by draft.gates pins ≡ gates_of (node_names elements) elements
    gates_are =
        let all = node_names elements in
        ap (gates_by draft.gates) pins_are
        ∙ (entries-made (name_at draft.names) (made_names draft) all draft.gates draft.sources ∙ (ap (gates_of all) can.has.gates ∙ gates-made all elements))

    pins_below : (sources : List Source) → AllByRecursion (λ source. list_any (bytes_eq (source_name (name_at draft.names) (made_names draft) source)) (node_names elements) ≡ true) sources
        → All (λ node. node < length (node_names elements)) (map (λ source. number_in (node_names elements) (source_name (name_at draft.names) (made_names draft) source)) sources)
    pins_below [] known = All-nil _
    pins_below (source ∷ rest) known =
        let all = node_names elements in
        let reads = source_name (name_at draft.names) (made_names draft) in
        All-cons (λ (node : ℕ). node < length all) (number_in all (reads source)) (map (λ source. number_in all (source_name (name_at draft.names) (made_names draft) source)) rest) (known-below all (reads source) known.0) (pins_below rest known.1)

    pins_given : MayAddPinsBy given (gates_built draft).inputs draft.gates pins × (with_pins_by given (gates_built draft).inputs draft.gates pins ≡ record (with_data_nodes cut_sources) { gates = gates_of (node_names elements) elements })
    pins_given =
        let all = node_names elements in
        let made = data_given cut_sources (data_are nodes cut_sources by data_read) in
        let long : length pins ≡ length draft.sources = ap length pins_are ∙ length-map draft.sources (λ source. number_in all (source_name (name_at draft.names) (made_names draft) source)) in
        let variables = circuit.variables in
        let total = pins-total draft.gates pins (can.sized ∙ sym long) in
        let count : length pins ≡ pins_of (gates_of all elements) = sym total ∙ ap pins_of gates_are in
        let below = subst (λ pins. All (λ node. node < length all) pins) (sym pins_are) (pins_below draft.sources sources_known) in
        let now = with_data_nodes cut_sources in
        subst (λ now. MayAddPinsBy now (gates_built draft).inputs draft.gates pins × (with_pins_by now (gates_built draft).inputs draft.gates pins ≡ record (with_data_nodes cut_sources) { gates = gates_of (node_names elements) elements })) (sym made.1)
        (subst (λ (number : ℕ). MayAddPinsBy (with_data_nodes cut_sources) number draft.gates pins × (with_pins_by (with_data_nodes cut_sources) number draft.gates pins ≡ record (with_data_nodes cut_sources) { gates = gates_of (node_names elements) elements }))
        (sym (ap (λ (now : Netlist). now.inputs) gates_added.1))
        (let taken = pins-given now now.inputs [] draft.gates pins (sym (add-zero now.inputs)) (omega (arith, ap length nodes_same, nodes_long)) (can.sized ∙ sym long)
        (entries-right (name_at draft.names) (made_names draft) draft.gates draft.sources can.sized (subst (AllByRecursion HasRightPins) (sym can.has.gates) (gates-all HasRightPins elements can.wired.pins)))
        (subst (λ all. All (λ node. node < length all) pins) nodes_same below) (omega (arith, ap length nodes_same, variables, count)) in
        (taken.0, taken.1 ∙ ap (λ gates. record (with_data_nodes cut_sources) { gates = gates }) gates_are)))

    pub build-pins : MayAddPinsBy given (gates_built draft).inputs draft.gates pins
    build-pins = pins_given.0

    -- outputs
    module _ (found : List ℕ) (named : found ≡ map (node_of nodes) draft.outputs) where
      found_are : found ≡ map (number_in (node_names elements)) (output_names elements)
      found_are =
          let all = node_names elements in
          named ∙ (outputs-numbers draft.names all nodes draft.outputs (table nodes by).0 can.output_numbers (subst (AreKnown all) (sym can.has.outputs) (outputs-known all elements can.wired.defined))
          ∙ ap (map (number_in all)) can.has.outputs)

      pub build-outputs : AreAdmissibleSteps HasNode with_output (with_pins_by given (gates_built draft).inputs draft.gates pins) found
      build-outputs =
          let all = node_names elements in
          let below = subst (λ found. All (λ node. node < length all) found) (sym found_are) (numbers-below all (output_names elements) (outputs-known all elements can.wired.defined)) in
          subst (λ now. AreAdmissibleSteps HasNode with_output now found) (sym pins_given.1)
          (outputs-may (record (with_data_nodes cut_sources) { gates = gates_of (node_names elements) elements }) found (subst (λ all. All (λ node. node < length all) found) nodes_same below))

      pub build-circuit : with_data_outputs (fold with_output (with_pins_by given (gates_built draft).inputs draft.gates pins) found) ≡ circuit_of_elements elements
      build-circuit =
          let all = node_names elements in
          let outputs = map (number_in all) (output_names elements) in
          let made = record (with_data_nodes cut_sources) { gates = gates_of (node_names elements) elements } in
          let is = data_are nodes cut_sources by data_read in
          ap (λ now. with_data_outputs (fold with_output now found)) pins_given.1
          ∙ (ap with_data_outputs (outputs-added made found)
          ∙ (data-added (record made { outputs = each_once found }) cut_sources
          ∙ same_netlist (record made { outputs = fold add_once (each_once found) cut_sources }) (circuit_of_elements elements) (sym nodes_same) (omega (arith, front_long)) (ap (map Some) is) refl
          (sym (each_once-append [] found cut_sources) ∙ ap each_once (ap (λ found. found ++ cut_sources) found_are ∙ ap (λ nodes. outputs ++ nodes) is))))
