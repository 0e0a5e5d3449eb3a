-- A draft: the elements that it has, by the numbers of their names, and the steps in which they are built.
use Rattle.std.specs.Prelude.{◌≡◌, ◌≢◌, ℕ, suc, ◌+◌, ◌<◌, ◌≤◌, All, List, [], ◌∷◌, ◌++◌, codes, decimal, length, map, take, drop, slice_set, slice_index_or}
use Rattle.std.specs.List.{IsDistinct, sum_by}
use Rattle.std.specs.Str.{bytes_eq}
use Rattle.hz_core.specs.Gate.{most_pins}
use Rattle.hz_core.specs.Limits.{most_variables}
use Rattle.hz_core.specs.Netlist.{Netlist, IsCutNumber, IsGateNumber, gate_at, variable_count, with_cut, with_data, with_gate, with_input}
use Rattle.hz_core.specs.Pins.{with_pins}
use Rattle.hz_netlist.specs.declared.draft.Draft.{Draft}
use Rattle.hz_netlist.specs.declared.draft.Gate.{Gate as GateEntry}
use Rattle.hz_netlist.specs.declared.draft.Role.{Role}
use Rattle.hz_netlist.specs.declared.draft.Role.TheVariants as role
use Rattle.hz_netlist.specs.declared.draft.Source.{Source}
use Rattle.hz_netlist.specs.declared.draft.Source.TheVariants as source
use Rattle.hz_netlist.specs.Build.{AreWired, MayAddNode}
use Rattle.hz_netlist.specs.Element.{Element, Gate, cut_names, data_names, gates_among, input_names, output_names}
use Rattle.hz_netlist.specs.Names.{Names, AreNumbers, name_at, names_at, seen_names}

-- the name of the inverter of a pin
abbrev pub inverter_name : List ℕ → ℕ → List ℕ
inverter_name output place = output ++ codes "\\n" ++ decimal place

-- the name of the gate of a row
abbrev pub row_name : List ℕ → ℕ → List ℕ
row_name output row = output ++ codes "\\r" ++ decimal row

-- the name of a gate, by its role and the name of the text
abbrev pub role_name : Role → List ℕ → List ℕ
role_name (role.Inverter pin) output = inverter_name output pin
role_name (role.Row row) output = row_name output row
role_name role.Output output = output

-- the name of a gate, if the names of the text are these by their numbers
abbrev pub gate_name : (ℕ → List ℕ) → GateEntry → List ℕ
gate_name name gate = role_name gate.role (name gate.output)

-- the node that a pin reads, if the gates have these names
abbrev pub source_name : (ℕ → List ℕ) → List (List ℕ) → Source → List ℕ
source_name name made (source.Name number) = name number
source_name name made (source.Gate number) = slice_index_or made number []

-- the elements of gates that read these sources, gate after gate, if all gates have these names
abbrev pub elements_from : (ℕ → List ℕ) → List (List ℕ) → List GateEntry → List Source →
    List Element
elements_from name made [] sources = []
elements_from name made (gate ∷ gates) sources =
    Gate (gate_name name gate) gate.kind (map (source_name name made) (take gate.pins sources))
    ∷ elements_from name made gates (drop gate.pins sources)

-- a source is a name of the text, or one of so many gates
abbrev pub ReadsGateBelow : ℕ → Source → Type 0
ReadsGateBelow gates (source.Name number) = Unit {0}
ReadsGateBelow gates (source.Gate number) = number < gates

-- a source is one of so many names, or a gate
abbrev pub ReadsNameBelow : ℕ → Source → Type 0
ReadsNameBelow names (source.Name number) = number < names
ReadsNameBelow names (source.Gate number) = Unit {0}

-- what a draft has
pub record Drafted : Type 0 where
  pub names : Names
  pub inputs : List ℕ
  pub cuts : List ℕ
  pub cut_sources : List Source
  pub gates : List GateEntry
  pub sources : List Source
  pub outputs : List ℕ

abbrev pub drafted : Draft → Drafted
drafted draft =
    record {
      names = draft.names.now;
      inputs = draft.inputs.now;
      cuts = draft.cuts.now;
      cut_sources = draft.cut_sources.now;
      gates = draft.gates.now;
      sources = draft.sources.now;
      outputs = draft.outputs.now;
    }

-- the names of its gates
abbrev pub made_names : Drafted → List (List ℕ)
made_names draft = map (gate_name (name_at draft.names)) draft.gates

-- the elements of its gates
abbrev pub gate_elements : (ℕ → List ℕ) → List GateEntry → List Source → List Element
gate_elements name gates sources = elements_from name (map (gate_name name) gates) gates sources

-- a draft has these elements, each kind of them in order
pub record HasElements (elements : List Element) (draft : Drafted) : Type 0 where
  pub inputs : names_at draft.names draft.inputs ≡ input_names elements
  pub cuts : names_at draft.names draft.cuts ≡ cut_names elements
  pub cut_sources : map (source_name (name_at draft.names) (made_names draft)) draft.cut_sources
      ≡ data_names elements
  pub gates : gate_elements (name_at draft.names) draft.gates draft.sources ≡ gates_among elements
  pub outputs : names_at draft.names draft.outputs ≡ output_names elements

-- a gate has a name of the text, or one that the text has not
abbrev pub HasOwnName : Names → Role → List ℕ → Type 0
HasOwnName names (role.Inverter pin) output =
    (number : ℕ) → number < length names → name_at names number ≢ inverter_name output pin
HasOwnName names (role.Row row) output =
    (number : ℕ) → number < length names → name_at names number ≢ row_name output row
HasOwnName names role.Output output = Unit {0}

-- a draft of these elements, which make a circuit; no name has two numbers
pub record IsBuildable (elements : List Element) (draft : Drafted) : Type 0 where
  pub has : HasElements elements draft
  pub wired : AreWired elements
  pub distinct : IsDistinct bytes_eq (seen_names draft.names)
  pub input_numbers : AreNumbers draft.names draft.inputs
  pub cut_numbers : AreNumbers draft.names draft.cuts
  pub data_numbers : All (ReadsNameBelow (length draft.names)) draft.cut_sources
  pub data_gates : All (ReadsGateBelow (length draft.gates)) draft.cut_sources
  pub gate_numbers : All (λ gate. gate.output < length draft.names) draft.gates
  pub gate_names : All (λ gate. HasOwnName draft.names gate.role (name_at draft.names gate.output))
      draft.gates
  pub sized : sum_by (λ gate. gate.pins) draft.gates ≡ length draft.sources
  pub source_numbers : All (ReadsNameBelow (length draft.names)) draft.sources
  pub source_gates : All (ReadsGateBelow (length draft.gates)) draft.sources
  pub output_numbers : AreNumbers draft.names draft.outputs

-- the circuit with an input that has the name with this number
abbrev pub with_input_numbered : (ℕ → List ℕ) → Netlist → ℕ → Netlist
with_input_numbered name netlist number = with_input netlist (name number)

-- such an input may be added: inputs come before cuts and gates
abbrev pub MayAddInputNumbered : (ℕ → List ℕ) → Netlist → ℕ → Type 0
MayAddInputNumbered name netlist number =
    MayAddNode netlist (name number) × (netlist.cuts ≡ []) × (netlist.gates ≡ [])

-- the circuit with a cut, without its data node
abbrev pub with_cut_numbered : (ℕ → List ℕ) → Netlist → ℕ → Netlist
with_cut_numbered name netlist number = with_cut netlist (name number)

-- such a cut may be added: cuts come before gates
abbrev pub MayAddCutNumbered : (ℕ → List ℕ) → Netlist → ℕ → Type 0
MayAddCutNumbered name netlist number =
    MayAddNode netlist (name number) × (netlist.gates ≡ [])

-- the circuit with a gate, without pins, if the names of the text are these by their numbers
abbrev pub with_gate_entry : (ℕ → List ℕ) → Netlist → GateEntry → Netlist
with_gate_entry name netlist gate = with_gate netlist (gate_name name gate) gate.kind

-- such a gate may be added
abbrev pub MayAddGateEntry : (ℕ → List ℕ) → Netlist → GateEntry → Type 0
MayAddGateEntry name netlist gate = MayAddNode netlist (gate_name name gate)

-- the circuit with these data nodes of cuts, the first of which has this number
abbrev pub with_data_by : Netlist → ℕ → List ℕ → Netlist
with_data_by netlist number [] = netlist
with_data_by netlist number (node ∷ nodes) =
    with_data_by (with_data netlist number node) (suc number) nodes

-- the cut may have this data node
pub record MayHaveData (netlist : Netlist) (number node : ℕ) : Type 0 where
  pub room : number < most_variables
  pub cut_is : IsCutNumber netlist number
  pub node_is : node < length netlist.names

-- such data nodes may be set
abbrev pub MaySetDataBy : Netlist → ℕ → List ℕ → Type 0
MaySetDataBy netlist number [] = Unit {0}
MaySetDataBy netlist number (node ∷ nodes) =
    MayHaveData netlist number node
    × MaySetDataBy (with_data netlist number node) (suc number) nodes

-- the circuit with the pins of gates, the first of which has this number; they read these nodes, gate after gate
abbrev pub with_pins_by : Netlist → ℕ → List GateEntry → List ℕ → Netlist
with_pins_by netlist number [] nodes = netlist
with_pins_by netlist number (gate ∷ gates) nodes =
    with_pins_by (with_pins netlist number (take gate.pins nodes)) (suc number) gates
    (drop gate.pins nodes)

-- the next gate may have the pins that read the first of these nodes
pub record MayAddPinsOf (netlist : Netlist) (number : ℕ) (gate : GateEntry)
    (nodes : List ℕ) : Type 0 where
  pub enough : gate.pins ≤ length nodes
  pub next : number < most_variables
  pub gate_is : IsGateNumber netlist number
  pub sources : All (λ node. node < length netlist.names) (take gate.pins nodes)
  pub pins : length (gate_at netlist number).sources + length (take gate.pins nodes)
      ≤ most_pins (gate_at netlist number).kind
  pub room : variable_count netlist + length (take gate.pins nodes) ≤ most_variables

-- such pins may be added
abbrev pub MayAddPinsBy : Netlist → ℕ → List GateEntry → List ℕ → Type 0
MayAddPinsBy netlist number [] nodes = Unit {0}
MayAddPinsBy netlist number (gate ∷ gates) nodes =
    MayAddPinsOf netlist number gate nodes
    × MayAddPinsBy (with_pins netlist number (take gate.pins nodes)) (suc number) gates
    (drop gate.pins nodes)

-- the nodes of names by their numbers, if these names are the nodes from this one on
abbrev pub with_nodes_from : ℕ → List ℕ → List ℕ → List ℕ
with_nodes_from node nodes [] = nodes
with_nodes_from node nodes (number ∷ rest) =
    with_nodes_from (suc node) (slice_set nodes number node) rest

-- the node of a gate that has a name of the text
abbrev pub with_role_node : Role → ℕ → List ℕ → ℕ → List ℕ
with_role_node (role.Inverter pin) node nodes output = nodes
with_role_node (role.Row row) node nodes output = nodes
with_role_node role.Output node nodes output = slice_set nodes output node

-- the nodes of names, if these gates are the nodes from this one on
abbrev pub with_gate_nodes : ℕ → List ℕ → List GateEntry → List ℕ
with_gate_nodes node nodes [] = nodes
with_gate_nodes node nodes (gate ∷ rest) =
    with_gate_nodes (suc node) (with_role_node gate.role node nodes gate.output) rest

-- the node that a pin reads, if names have these nodes and so many inputs come before the gates
abbrev pub source_node : List ℕ → ℕ → Source → ℕ
source_node nodes inputs (source.Name number) = slice_index_or nodes number 0
source_node nodes inputs (source.Gate gate) = inputs + gate

-- the nodes of the names of a draft; a name that no node has may have any
abbrev pub AreNodesBy : Drafted → List ℕ → Type 0
AreNodesBy draft nodes =
    (start : List ℕ) × (length start ≡ length draft.names)
    × (nodes
    ≡ with_gate_nodes (length draft.inputs + length draft.cuts)
    (with_nodes_from (length draft.inputs) (with_nodes_from 0 start draft.inputs) draft.cuts)
    draft.gates)
