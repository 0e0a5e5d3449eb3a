-- What each call of `Circuit` makes of a circuit is one, and what holds of the gates of a whole circuit.
use Rattle.std.proofs.Common.{◌≡◌, ◌∙◌, refl, ℕ, Bool, true, false, cond, nat_le, nat_eq, get_or, subst, ◌+◌, ◌-◌, ◌<◌, ◌≤◌, List, [], ◌∷◌, ◌++◌, length, Option, None, Some, IsTrue, All, arith, rules, length-append, add-zero}
use Rattle.std.proofs.Math.ListN.{length-set}
use Rattle.std.specs.List.{IsDistinct, list_any}
use Rattle.std.specs.Str.{bytes_eq}
use Rattle.std.specs.Cmp.Lexicographic.{nat_list_eq_equiv}
use Rattle.std.proofs.lemmas.Bool.Decides.{nat_tests}
use Rattle.std.proofs.lemmas.List.Sums.{sum_by-append, sum_by-set}
use Rattle.std.proofs.lemmas.List.Elements.{All-append, All-cons, All-nil, All-push, All-set, All-weaker}
use Rattle.std.proofs.lemmas.Cmp.{nat_eq_equiv}
use Rattle.std.proofs.lemmas.Map.Keys.{IsDistinct-push}
use Rattle.hz_core.specs.declared.kind.Kind.{Kind}
use Rattle.hz_core.specs.declared.kind.Kind.TheVariants.{And, Nand, Or, Nor, Xor, Xnor, Not, Buff}
use Rattle.hz_core.specs.Gate.{takes, most_pins}
use Rattle.hz_core.specs.Pins.{with_pins, with_sources}
use Rattle.hz_core.specs.Netlist.{Gate, Netlist, IsName, IsCircuit, IsGateAmong, IsDataAmong, IsCutNumber, IsGateNumber, IsWhole, pin_count, variable_count, primary_inputs, data_of, gate_at, node_named, empty_netlist, with_input, with_cut, with_data, with_gate, with_pin, with_output}
use Rattle.hz_core.proofs.ListLemmas.{list_any-from_position_none}
use Rattle.hz_core.specs.Limits.{most_gate_pins, most_variables}

-- what `new` makes
pub IsCircuit-empty : IsCircuit empty_netlist
unfolding IsDistinct
IsCircuit-empty =
    record {
      names = search rules;
      names_distinct = search rules;
      nodes = refl;
      cuts = search rules;
      data_nodes = search rules;
      gates = search rules;
      outputs = search rules;
      outputs_distinct = search rules;
      variables = search rules;
    }

-- so much more is a node
among_more : (nodes : ℕ) (gates : List Gate) → All (IsGateAmong nodes) gates → All (IsGateAmong (nodes + 1)) gates
among_more nodes gates all =
    All-weaker (IsGateAmong nodes) (IsGateAmong (nodes + 1))
    (λ gate is. record {
      pins = is.pins;
      sources = All-weaker (λ source. source < nodes) (λ source. source < nodes + 1) (λ source below. omega arith) gate.sources is.sources;
    })
    gates all

-- a data node is still one where a node comes
data_more : (nodes : ℕ) (node : Option ℕ) → IsDataAmong nodes node → IsDataAmong (nodes + 1) node
data_more nodes None is = is
data_more nodes (Some node) is = omega (arith, is)

-- so much more is a node
data_among_more :
    (netlist : Netlist) (name : List ℕ) → IsCircuit netlist →
    All (IsDataAmong (length (netlist.names ++ name ∷ []))) netlist.cuts
data_among_more netlist name circuit =
    rw (length-append netlist.names (name ∷ []))
    (All-weaker (IsDataAmong (length netlist.names)) (IsDataAmong (length netlist.names + 1)) (data_more (length netlist.names))
    netlist.cuts circuit.data_nodes)

-- names stay distinct where a new one comes
names_distinct-push :
    (netlist : Netlist) (name : List ℕ) → IsCircuit netlist → node_named netlist name ≡ None →
    IsDistinct bytes_eq (netlist.names ++ name ∷ [])
names_distinct-push netlist name circuit fresh =
    IsDistinct-push nat_list_eq_equiv netlist.names name circuit.names_distinct
    (list_any-from_position_none (bytes_eq name) netlist.names fresh)

-- a gate's pins still read nodes where a node comes
gates_among_more :
    (netlist : Netlist) (name : List ℕ) → IsCircuit netlist → All (IsGateAmong (length (netlist.names ++ name ∷ []))) netlist.gates
gates_among_more netlist name circuit = rw (length-append netlist.names (name ∷ [])) (among_more _ _ circuit.gates)

-- and outputs are still nodes
outputs_among_more :
    (netlist : Netlist) (name : List ℕ) → IsCircuit netlist → All (λ node. node < length (netlist.names ++ name ∷ [])) netlist.outputs
outputs_among_more netlist name circuit =
    All-weaker (λ node. node < length netlist.names) (λ node. node < length (netlist.names ++ name ∷ []))
    (λ node below. omega (arith, length-append netlist.names (name ∷ []), below)) netlist.outputs circuit.outputs

-- a gate without pins adds none
pub pin_count-with_gate :
    (netlist : Netlist) (name : List ℕ) (kind : Kind) → pin_count (with_gate netlist name kind) ≡ pin_count netlist
pin_count-with_gate netlist name kind =
    let gate : Gate = record { kind = kind; sources = [] } in
    sum_by-append (λ (gate : Gate). length gate.sources) netlist.gates (gate ∷ []) ∙ add-zero _

-- what `add_input` makes
pub IsCircuit-with_input :
    (netlist : Netlist) (name : List ℕ) → IsCircuit netlist → IsName name → node_named netlist name ≡ None → netlist.gates ≡ [] →
    variable_count netlist < most_variables → IsCircuit (with_input netlist name)
IsCircuit-with_input netlist name circuit is_name fresh no_gate room =
    record {
      names = All-push IsName netlist.names name circuit.names is_name;
      names_distinct = names_distinct-push netlist name circuit fresh;
      nodes = omega (arith, length-append netlist.names (name ∷ []), circuit.nodes);
      cuts = omega (arith, circuit.cuts);
      data_nodes = data_among_more netlist name circuit;
      gates = gates_among_more netlist name circuit;
      outputs = outputs_among_more netlist name circuit;
      outputs_distinct = circuit.outputs_distinct;
      variables = omega (arith, length-append netlist.names (name ∷ []), room);
    }

-- what `add_cut` makes
pub IsCircuit-with_cut :
    (netlist : Netlist) (name : List ℕ) → IsCircuit netlist → IsName name → node_named netlist name ≡ None → netlist.gates ≡ [] →
    variable_count netlist < most_variables → IsCircuit (with_cut netlist name)
IsCircuit-with_cut netlist name circuit is_name fresh no_gate room =
    let no_data : Option ℕ = None in
    let nodes = length (netlist.names ++ name ∷ []) in
    let unset : IsDataAmong nodes no_data = search rules in
    record {
      names = All-push IsName netlist.names name circuit.names is_name;
      names_distinct = names_distinct-push netlist name circuit fresh;
      nodes = omega (arith, length-append netlist.names (name ∷ []), circuit.nodes);
      cuts = omega (arith, length-append netlist.cuts (no_data ∷ []), circuit.cuts);
      data_nodes = All-push (IsDataAmong nodes) netlist.cuts no_data (data_among_more netlist name circuit) unset;
      gates = gates_among_more netlist name circuit;
      outputs = outputs_among_more netlist name circuit;
      outputs_distinct = circuit.outputs_distinct;
      variables = omega (arith, length-append netlist.names (name ∷ []), room);
    }

-- what `set_data` makes
pub IsCircuit-with_data :
    (netlist : Netlist) (cut node : ℕ) → IsCircuit netlist → IsCutNumber netlist cut → node < length netlist.names →
    IsCircuit (with_data netlist cut node)
IsCircuit-with_data netlist cut node circuit is_cut is_node =
    let place = cut - primary_inputs netlist in
    record {
      names = circuit.names;
      names_distinct = circuit.names_distinct;
      nodes = circuit.nodes;
      cuts = omega (arith, length-set netlist.cuts place (Some node), circuit.cuts);
      data_nodes = All-set (IsDataAmong (length netlist.names)) netlist.cuts place (Some node) is_node circuit.data_nodes;
      gates = circuit.gates;
      outputs = circuit.outputs;
      outputs_distinct = circuit.outputs_distinct;
      variables = circuit.variables;
    }

-- what `add_gate` makes
pub IsCircuit-with_gate :
    (netlist : Netlist) (name : List ℕ) (kind : Kind) → IsCircuit netlist → IsName name → node_named netlist name ≡ None →
    variable_count netlist < most_variables → IsCircuit (with_gate netlist name kind)
IsCircuit-with_gate netlist name kind circuit is_name fresh room =
    let gate : Gate = record { kind = kind; sources = [] } in
    let none : IsGateAmong (length (netlist.names ++ name ∷ [])) gate =
    record { pins = omega arith; sources = All-nil (λ source. source < length (netlist.names ++ name ∷ [])) } in
    record {
      names = All-push IsName netlist.names name circuit.names is_name;
      names_distinct = names_distinct-push netlist name circuit fresh;
      nodes = omega (arith, length-append netlist.names (name ∷ []), length-append netlist.gates (gate ∷ []), circuit.nodes);
      cuts = circuit.cuts;
      data_nodes = data_among_more netlist name circuit;
      gates = All-push (IsGateAmong (length (netlist.names ++ name ∷ []))) netlist.gates gate (gates_among_more netlist name circuit) none;
      outputs = outputs_among_more netlist name circuit;
      outputs_distinct = circuit.outputs_distinct;
      variables = omega (arith, length-append netlist.names (name ∷ []), pin_count-with_gate netlist name kind, room);
    }

-- more pins are counted
pub pin_count-with_pins :
    (netlist : Netlist) (node : ℕ) (sources : List ℕ) → IsCircuit netlist → IsGateNumber netlist node →
    pin_count (with_pins netlist node sources) ≡ pin_count netlist + length sources
pin_count-with_pins netlist node sources circuit is_gate =
    let gate = gate_at netlist node in
    let within : node - netlist.inputs < length netlist.gates = omega (arith, circuit.nodes) in
    omega (
      arith,
      sum_by-set (λ (gate : Gate). length gate.sources) netlist.gates (node - netlist.inputs) (with_sources gate sources)
          (record { kind = And; sources = [] }) within,
      length-append gate.sources sources,
    )

-- what `connect_all` makes
pub IsCircuit-with_pins :
    (netlist : Netlist) (node : ℕ) (sources : List ℕ) → IsCircuit netlist → IsGateNumber netlist node →
    All (λ source. source < length netlist.names) sources →
    length (gate_at netlist node).sources + length sources ≤ most_pins (gate_at netlist node).kind →
    variable_count netlist + length sources ≤ most_variables → IsCircuit (with_pins netlist node sources)
IsCircuit-with_pins netlist node sources circuit is_gate are_nodes free room =
    let gate = gate_at netlist node in
    let within : node - netlist.inputs < length netlist.gates = omega (arith, circuit.nodes) in
    let was : IsGateAmong (length netlist.names) gate = circuit.gates (node - netlist.inputs) _ within in
    let more : IsGateAmong (length netlist.names) (with_sources gate sources) =
    record {
      pins = omega (arith, length-append gate.sources sources, free);
      sources = All-append (λ source. source < length netlist.names) gate.sources sources was.sources are_nodes;
    } in
    record {
      names = circuit.names;
      names_distinct = circuit.names_distinct;
      nodes = omega (arith, length-set netlist.gates (node - netlist.inputs) (with_sources gate sources), circuit.nodes);
      cuts = circuit.cuts;
      data_nodes = circuit.data_nodes;
      gates = All-set (IsGateAmong (length netlist.names)) netlist.gates (node - netlist.inputs) (with_sources gate sources) more circuit.gates;
      outputs = circuit.outputs;
      outputs_distinct = circuit.outputs_distinct;
      variables = omega (arith, pin_count-with_pins netlist node sources circuit is_gate, room);
    }

-- a pin more is counted
pub pin_count-with_pin :
    (netlist : Netlist) (node source : ℕ) → IsCircuit netlist → IsGateNumber netlist node →
    pin_count (with_pin netlist node source) ≡ pin_count netlist + 1
pin_count-with_pin netlist node source circuit is_gate = pin_count-with_pins netlist node (source ∷ []) circuit is_gate

-- what `connect` makes
pub IsCircuit-with_pin :
    (netlist : Netlist) (node source : ℕ) → IsCircuit netlist → IsGateNumber netlist node → source < length netlist.names →
    length (gate_at netlist node).sources < most_pins (gate_at netlist node).kind → variable_count netlist < most_variables →
    IsCircuit (with_pin netlist node source)
IsCircuit-with_pin netlist node source circuit is_gate is_node free room =
    IsCircuit-with_pins netlist node (source ∷ []) circuit is_gate
    (All-cons (λ (source : ℕ). source < length netlist.names) source [] is_node (All-nil (λ (source : ℕ). source < length netlist.names)))
    (omega (arith, free)) (omega (arith, room))

-- a number of pins between 1 and the most is one that the kind takes
pub takes-from_bounds : (kind : Kind) (pins : ℕ) → 1 ≤ pins → pins ≤ most_pins kind → IsTrue (takes kind pins)
takes-from_bounds kind pins some most = search (rules, nat_tests)

-- and the other way round: a kind takes at least one pin, and no more than its most
pub bounds-from_takes : (kind : Kind) (pins : ℕ) → takes kind pins ≡ true → (1 ≤ pins) × (pins ≤ most_pins kind)
bounds-from_takes kind pins h = grind (arith, nat_tests, h)

-- no kind takes more pins than any gate may have
pub most_pins-bound : (kind : Kind) → most_pins kind ≤ most_gate_pins
most_pins-bound And = omega arith
most_pins-bound Nand = omega arith
most_pins-bound Or = omega arith
most_pins-bound Nor = omega arith
most_pins-bound Xor = omega arith
most_pins-bound Xnor = omega arith
most_pins-bound Not = omega arith
most_pins-bound Buff = omega arith

-- in a whole circuit each gate has a number of pins that its kind takes
pub takes-from_whole :
    (netlist : Netlist) → IsCircuit netlist → IsWhole netlist →
    All (λ gate. IsTrue (takes gate.kind (length gate.sources))) netlist.gates
takes-from_whole netlist circuit whole = λ k d within.
    takes-from_bounds _ _ (whole.gates k d within) ((circuit.gates k d within).pins)

-- the same at a gate's node number
pub takes-at_gate :
    (netlist : Netlist) (node : ℕ) → IsCircuit netlist → IsWhole netlist → IsGateNumber netlist node →
    IsTrue (takes (gate_at netlist node).kind (length (gate_at netlist node).sources))
takes-at_gate netlist node circuit whole is_gate =
    takes-from_whole netlist circuit whole (node - netlist.inputs) _ (omega (arith, circuit.nodes))

-- each source of a gate is a node
pub sources-at_gate :
    (netlist : Netlist) (node : ℕ) → IsCircuit netlist → IsGateNumber netlist node →
    All (λ source. source < length netlist.names) (gate_at netlist node).sources
sources-at_gate netlist node circuit is_gate =
    (circuit.gates (node - netlist.inputs) _ (omega (arith, circuit.nodes))).sources

-- the data node of a cut stands among the cuts
pub data_of-cut :
    (netlist : Netlist) (cut : ℕ) → primary_inputs netlist ≤ cut →
    data_of netlist cut ≡ get_or netlist.cuts (cut - primary_inputs netlist) None
data_of-cut netlist cut above =
    let is_cut : nat_le (primary_inputs netlist) cut ≡ true = grind (arith, nat_tests, above) in rw is_cut refl

-- the data node of an input is a node
pub data_of-node :
    (netlist : Netlist) (input node : ℕ) → IsCircuit netlist → input < netlist.inputs → data_of netlist input ≡ Some node →
    node < length netlist.names
data_of-node netlist input node circuit inside is =
    by_test (nat_le (primary_inputs netlist) input) refl is
  where
    by_test :
        (b : Bool) → nat_le (primary_inputs netlist) input ≡ b →
        cond b (get_or netlist.cuts (input - primary_inputs netlist) None) None ≡ Some node → node < length netlist.names
    by_test false h is = cc
    by_test true h is =
        let above : primary_inputs netlist ≤ input = grind (arith, nat_tests, h) in
        let within : input - primary_inputs netlist < length netlist.cuts = omega (arith, above, inside, circuit.cuts) in
        subst (IsDataAmong (length netlist.names)) is (circuit.data_nodes (input - primary_inputs netlist) None within)

-- what `add_output` makes
pub IsCircuit-with_output :
    (netlist : Netlist) (node : ℕ) → IsCircuit netlist → node < length netlist.names → IsCircuit (with_output netlist node)
IsCircuit-with_output netlist node circuit is_node = by_test (list_any (nat_eq node) netlist.outputs) refl
  where
    by_test :
        (b : Bool) → list_any (nat_eq node) netlist.outputs ≡ b →
        IsCircuit (record netlist { outputs = cond b netlist.outputs (netlist.outputs ++ node ∷ []) })
    by_test true h = circuit
    by_test false h =
        record {
          names = circuit.names;
          names_distinct = circuit.names_distinct;
          nodes = circuit.nodes;
          cuts = circuit.cuts;
          data_nodes = circuit.data_nodes;
          gates = circuit.gates;
          outputs = All-push (λ node. node < length netlist.names) netlist.outputs node circuit.outputs is_node;
          outputs_distinct = IsDistinct-push nat_eq_equiv netlist.outputs node circuit.outputs_distinct h;
          variables = circuit.variables;
        }

-- `same_netlist`, by the lists alone
by_parts :
    (names names' : List (List ℕ)) (inputs inputs' : ℕ) (cuts cuts' : List (Option ℕ)) (gates gates' : List Gate)
    (outputs outputs' : List ℕ) → names ≡ names' → inputs ≡ inputs' → cuts ≡ cuts' → gates ≡ gates' → outputs ≡ outputs' →
    let left : Netlist = record { names = names; inputs = inputs; cuts = cuts; gates = gates; outputs = outputs } in
    let right : Netlist = record { names = names'; inputs = inputs'; cuts = cuts'; gates = gates'; outputs = outputs' } in
    left ≡ right
by_parts names names' inputs inputs' cuts cuts' gates gates' outputs outputs' e f k g h = cc

-- two circuits with the same lists are the same
pub same_netlist :
    (left right : Netlist) → left.names ≡ right.names → left.inputs ≡ right.inputs → left.cuts ≡ right.cuts →
    left.gates ≡ right.gates → left.outputs ≡ right.outputs → left ≡ right
same_netlist left right names inputs cuts gates outputs = by_parts _ _ _ _ _ _ _ _ _ _ names inputs cuts gates outputs
