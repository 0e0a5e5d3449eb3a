-- Circuits: named inputs, flip-flops that are cut, gates with their sources, and outputs.
use Rattle.std.specs.Prelude.{◌≡◌, ℕ, ◌+◌, ◌-◌, ◌<◌, ◌≤◌, Bool, false, not, ◌||◌, ◌&&◌, List, [], ◌∷◌, ◌++◌, length, All, IsTrue, Option, None, Some, position, sum_by, nat_le, ◌==◌, nat_eq, slice_set, if◌then◌else◌}
use Rattle.std.specs.List.{slice_index_or, list_any, list_all, IsDistinct}
use Rattle.std.specs.Str.{bytes_eq}
use Rattle.hz_core.specs.declared.kind.Kind.{Kind}
use Rattle.hz_core.specs.declared.kind.Kind.TheVariants.{And}
use Rattle.hz_core.specs.Gate.{most_pins}
use Rattle.hz_core.specs.Limits.{most_variables, longest_name}

-- a gate: its kind, and the node that each of its pins reads, in the order of the pins
pub record Gate : Type 0 where
  pub kind : Kind
  pub sources : List ℕ

-- A circuit. Its nodes are numbered from 0, inputs before gates; a node's number is the place of its name. The last inputs are
-- cuts: each stands for the output of a flip-flop, and has the node that the flip-flop reads, its data node, once that is set.
pub record Netlist : Type 0 where
  pub names : List (List ℕ)
  pub inputs : ℕ
  pub cuts : List (Option ℕ)
  pub gates : List Gate
  pub outputs : List ℕ

-- a byte that may stand in a name: 0x21 to 0x7E, and none of the signs ( ) , = #
abbrev pub is_name_byte : ℕ → Bool
is_name_byte byte =
    nat_le 33 byte && nat_le byte 126
    && not (byte == 40 || byte == 41 || byte == 44 || byte == 61 || byte == 35)

-- a name is one such byte or more, and no longer than a name may be
pub record IsName (name : List ℕ) : Type 0 where
  pub some : 1 ≤ length name
  pub short : length name ≤ longest_name
  pub bytes : IsTrue (list_all is_name_byte name)

-- how many pins the gates have in all
abbrev pub pin_count : Netlist → ℕ
pin_count netlist = sum_by (λ gate. length gate.sources) netlist.gates

-- how many variables the complete network has: one for each node, and one wire for each pin
abbrev pub variable_count : Netlist → ℕ
variable_count netlist = length netlist.names + pin_count netlist

-- how many inputs are no cuts: these, the primary inputs, come first
abbrev pub primary_inputs : Netlist → ℕ
primary_inputs netlist = netlist.inputs - length netlist.cuts

-- the node is an input that is no cut: a start must list it
abbrev pub IsPrimaryInput : Netlist → ℕ → Type 0
IsPrimaryInput netlist node = node < primary_inputs netlist

-- the node is a cut
abbrev pub IsCutNumber : Netlist → ℕ → Type 0
IsCutNumber netlist node = (primary_inputs netlist ≤ node) × (node < netlist.inputs)

-- the data node of a cut, if it is set; an input that is no cut has none
abbrev pub data_of : Netlist → ℕ → Option ℕ
data_of netlist input =
    if nat_le (primary_inputs netlist) input
    then slice_index_or netlist.cuts (input - primary_inputs netlist) None else None

-- the node is a gate: gates are numbered after the inputs
abbrev pub IsGateNumber : Netlist → ℕ → Type 0
IsGateNumber netlist node = (netlist.inputs ≤ node) × (node < length netlist.names)

-- the gate with this node number
abbrev pub gate_at : Netlist → ℕ → Gate
gate_at netlist node =
    slice_index_or netlist.gates (node - netlist.inputs) (record { kind = And; sources = [] })

-- the name of a node, by the list of names
abbrev pub node_name : List (List ℕ) → ℕ → List ℕ
node_name names node = slice_index_or names node []

-- the node with this name, if there is one
abbrev pub node_named : Netlist → List ℕ → Option ℕ
node_named netlist name = position (bytes_eq name) netlist.names

-- the circuit without nodes
abbrev pub empty_netlist : Netlist
empty_netlist = record { names = []; inputs = 0; cuts = []; gates = []; outputs = [] }

-- the circuit with one input more, after its last node
abbrev pub with_input : Netlist → List ℕ → Netlist
with_input netlist name =
    record netlist { names = netlist.names ++ name ∷ []; inputs = netlist.inputs + 1 }

-- the circuit with one cut more, which has no data node yet, after its last node
abbrev pub with_cut : Netlist → List ℕ → Netlist
with_cut netlist name =
    record netlist {
      names = netlist.names ++ name ∷ [];
      inputs = netlist.inputs + 1;
      cuts = netlist.cuts ++ None ∷ [];
    }

-- the circuit with this data node for a cut
abbrev pub with_data : Netlist → ℕ → ℕ → Netlist
with_data netlist cut node =
    record netlist { cuts = slice_set netlist.cuts (cut - primary_inputs netlist) (Some node) }

-- the circuit with one gate more, which has no pin yet, after its last node
abbrev pub with_gate : Netlist → List ℕ → Kind → Netlist
with_gate netlist name kind =
    record netlist {
      names = netlist.names ++ name ∷ [];
      gates = netlist.gates ++ record { kind = kind; sources = [] } ∷ [];
    }

-- the gate with one pin more, after its last pin
abbrev pub with_source : Gate → ℕ → Gate
with_source gate source = record gate { sources = gate.sources ++ source ∷ [] }

-- the circuit with one pin more at a gate
abbrev pub with_pin : Netlist → ℕ → ℕ → Netlist
with_pin netlist node source =
    record netlist {
      gates =
          slice_set netlist.gates (node - netlist.inputs)
          (with_source (gate_at netlist node) source);
    }

-- the circuit with the node among its outputs: it stays where it is, or comes last
abbrev pub with_output : Netlist → ℕ → Netlist
with_output netlist node =
    record netlist {
      outputs =
          if list_any (nat_eq node) netlist.outputs then netlist.outputs
          else netlist.outputs ++ node ∷ [];
    }

-- a gate of a circuit that has so many nodes: no more pins than its kind takes, each of which reads a node
pub record IsGateAmong (nodes : ℕ) (gate : Gate) : Type 0 where
  pub pins : length gate.sources ≤ most_pins gate.kind
  pub sources : All (λ source. source < nodes) gate.sources

-- a data node of a circuit that has so many nodes is one of them, if it is set
abbrev pub IsDataAmong : ℕ → Option ℕ → Type 0
IsDataAmong nodes None = Unit {0}
IsDataAmong nodes (Some node) = node < nodes

-- what holds of every circuit
pub record IsCircuit (netlist : Netlist) : Type 0 where
  pub names : All IsName netlist.names
  pub names_distinct : IsDistinct bytes_eq netlist.names
  pub nodes : length netlist.names ≡ netlist.inputs + length netlist.gates
  pub cuts : length netlist.cuts ≤ netlist.inputs
  pub data_nodes : All (IsDataAmong (length netlist.names)) netlist.cuts
  pub gates : All (IsGateAmong (length netlist.names)) netlist.gates
  pub outputs : All (λ node. node < length netlist.names) netlist.outputs
  pub outputs_distinct : IsDistinct nat_eq netlist.outputs
  pub variables : variable_count netlist ≤ most_variables

-- a cut has a data node, which is one of the outputs
abbrev pub has_output : List ℕ → Option ℕ → Bool
has_output outputs None = false
has_output outputs (Some node) = list_any (nat_eq node) outputs

-- each gate has a pin, and each cut has a data node, which is an output
pub record IsWhole (netlist : Netlist) : Type 0 where
  pub gates : All (λ gate. 1 ≤ length gate.sources) netlist.gates
  pub cuts : All (λ node. IsTrue (has_output netlist.outputs node)) netlist.cuts
