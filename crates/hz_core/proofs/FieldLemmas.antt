-- How the fields of a circuit change at each call, and what they then stand for.
use Rattle.std.proofs.Common.{◌≡◌, ◌∙◌, sym, ap, ℕ, ◌+◌, ◌-◌, ◌<◌, ◌≤◌, All, List, [], ◌∷◌, ◌++◌, length, None, get_or, set, arith, subst}
use Rattle.std.specs.List.{position}
use Rattle.std.specs.Str.{bytes_eq}
use Rattle.hz_core.specs.declared.kind.Kind.{Kind}
use Rattle.hz_core.specs.declared.kind.Kind.TheVariants.{And}
use Rattle.hz_core.specs.declared.circuit.Circuit.TheInside.{Inside}
use Rattle.hz_core.specs.Inside.{netlist_of_fields, HoldsCircuit}
use Rattle.hz_core.specs.Gate.{most_pins}
use Rattle.hz_core.specs.Pins.{with_pins, with_sources}
use Rattle.hz_core.specs.Netlist.{Gate, Netlist, IsName, IsCircuit, IsGateNumber, pin_count, variable_count, gate_at, node_named, empty_netlist, with_input, with_cut, with_gate}
use Rattle.hz_core.proofs.ListLemmas.{get_or-default}
use Rattle.hz_core.proofs.CircuitLemmas.{IsCircuit-empty, IsCircuit-with_input, IsCircuit-with_cut, IsCircuit-with_gate, IsCircuit-with_pins, pin_count-with_gate, pin_count-with_pins, same_netlist}
use Rattle.hz_core.specs.Limits.{most_variables}

-- fields that stand for a circuit, and count its pins
holds_circuit :
    (fields : Inside) (netlist : Netlist) → netlist_of_fields fields ≡ netlist → IsCircuit netlist → fields.pins ≡ pin_count netlist →
    HoldsCircuit fields
holds_circuit fields netlist same circuit counted =
    record { circuit = rw same circuit; counted = counted ∙ sym (ap pin_count same) }

-- the circuit that the fields stand for
circuit_of : (fields : Inside) (netlist : Netlist) → netlist_of_fields fields ≡ netlist → HoldsCircuit fields → IsCircuit netlist
circuit_of fields netlist same holds = subst IsCircuit same holds.circuit

-- the fields of a new circuit
pub HoldsCircuit-empty :
    (fields : Inside) → fields.names.keys ≡ [] → fields.inputs ≡ 0 → fields.cuts.items ≡ [] → fields.gates.items ≡ [] →
    fields.outputs ≡ [] → fields.pins ≡ 0 → HoldsCircuit fields
HoldsCircuit-empty fields names inputs cuts gates outputs pins =
    holds_circuit fields empty_netlist
    (same_netlist (netlist_of_fields fields) empty_netlist names inputs cuts gates outputs)
    IsCircuit-empty pins

-- the fields from old to new, where an input came
pub record InputComes (old new : Inside) (name : List ℕ) : Type 0 where
  pub names : new.names.keys ≡ old.names.keys ++ name ∷ []
  pub inputs : new.inputs ≡ old.inputs + 1
  pub cuts : new.cuts.items ≡ old.cuts.items
  pub gates : new.gates.items ≡ old.gates.items
  pub outputs : new.outputs ≡ old.outputs
  pub pins : new.pins ≡ old.pins

-- then the circuit is the definition's
pub view-InputComes :
    (old new : Inside) (netlist : Netlist) (name : List ℕ) → netlist_of_fields old ≡ netlist →
    node_named netlist name ≡ None → InputComes old new name → netlist_of_fields new ≡ with_input netlist name
view-InputComes old new netlist name same fresh comes =
    same_netlist (netlist_of_fields new) (with_input (netlist_of_fields old) name) comes.names
    comes.inputs comes.cuts comes.gates comes.outputs ∙ ap (λ n. with_input n name) same

-- and the invariant holds again
pub HoldsCircuit-InputComes :
    (old new : Inside) (netlist : Netlist) (name : List ℕ) → netlist_of_fields old ≡ netlist →
    node_named netlist name ≡ None → InputComes old new name → HoldsCircuit old → IsName name →
    netlist.gates ≡ [] → variable_count netlist < most_variables → HoldsCircuit new
HoldsCircuit-InputComes old new netlist name same fresh comes holds is_name no_gate room =
    holds_circuit new (with_input netlist name) (view-InputComes old new netlist name same fresh comes)
    (IsCircuit-with_input netlist name (circuit_of old netlist same holds) is_name fresh no_gate room)
    (comes.pins ∙ holds.counted ∙ ap pin_count same)

-- the fields from old to new, where a cut came
pub record CutComes (old new : Inside) (name : List ℕ) : Type 0 where
  pub names : new.names.keys ≡ old.names.keys ++ name ∷ []
  pub inputs : new.inputs ≡ old.inputs + 1
  pub cuts : new.cuts.items ≡ old.cuts.items ++ None ∷ []
  pub gates : new.gates.items ≡ old.gates.items
  pub outputs : new.outputs ≡ old.outputs
  pub pins : new.pins ≡ old.pins

-- then the circuit is the definition's
pub view-CutComes :
    (old new : Inside) (netlist : Netlist) (name : List ℕ) → netlist_of_fields old ≡ netlist →
    node_named netlist name ≡ None → CutComes old new name → netlist_of_fields new ≡ with_cut netlist name
view-CutComes old new netlist name same fresh comes =
    same_netlist (netlist_of_fields new) (with_cut (netlist_of_fields old) name) comes.names
    comes.inputs comes.cuts comes.gates comes.outputs ∙ ap (λ n. with_cut n name) same

-- and the invariant holds again
pub HoldsCircuit-CutComes :
    (old new : Inside) (netlist : Netlist) (name : List ℕ) → netlist_of_fields old ≡ netlist →
    node_named netlist name ≡ None → CutComes old new name → HoldsCircuit old → IsName name →
    netlist.gates ≡ [] → variable_count netlist < most_variables → HoldsCircuit new
HoldsCircuit-CutComes old new netlist name same fresh comes holds is_name no_gate room =
    holds_circuit new (with_cut netlist name) (view-CutComes old new netlist name same fresh comes)
    (IsCircuit-with_cut netlist name (circuit_of old netlist same holds) is_name fresh no_gate room)
    (comes.pins ∙ holds.counted ∙ ap pin_count same)

-- the fields from old to new, where a gate came
pub record GateComes (old new : Inside) (name : List ℕ) (kind : Kind) : Type 0 where
  pub names : new.names.keys ≡ old.names.keys ++ name ∷ []
  pub inputs : new.inputs ≡ old.inputs
  pub cuts : new.cuts.items ≡ old.cuts.items
  pub gates : new.gates.items ≡ old.gates.items ++ record { kind = kind; sources = [] } ∷ []
  pub outputs : new.outputs ≡ old.outputs
  pub pins : new.pins ≡ old.pins

-- then the circuit is the definition's
pub view-GateComes :
    (old new : Inside) (netlist : Netlist) (name : List ℕ) (kind : Kind) → netlist_of_fields old ≡ netlist →
    node_named netlist name ≡ None → GateComes old new name kind → netlist_of_fields new ≡ with_gate netlist name kind
view-GateComes old new netlist name kind same fresh comes =
    same_netlist (netlist_of_fields new) (with_gate (netlist_of_fields old) name kind) comes.names
    comes.inputs comes.cuts comes.gates comes.outputs ∙ ap (λ n. with_gate n name kind) same

-- and the invariant holds again
pub HoldsCircuit-GateComes :
    (old new : Inside) (netlist : Netlist) (name : List ℕ) (kind : Kind) → netlist_of_fields old ≡ netlist →
    node_named netlist name ≡ None → GateComes old new name kind → HoldsCircuit old → IsName name →
    variable_count netlist < most_variables → HoldsCircuit new
HoldsCircuit-GateComes old new netlist name kind same fresh comes holds is_name room =
    holds_circuit new (with_gate netlist name kind) (view-GateComes old new netlist name kind same fresh comes)
    (IsCircuit-with_gate netlist name kind (circuit_of old netlist same holds) is_name fresh room)
    (comes.pins ∙ holds.counted ∙ ap pin_count same ∙ sym (pin_count-with_gate netlist name kind))

-- the fields from old to new, where pins came to the gate that was read
pub record PinsCome (old new : Inside) (was : Gate) (node : ℕ) (sources : List ℕ) : Type 0 where
  pub names : new.names.keys ≡ old.names.keys
  pub inputs : new.inputs ≡ old.inputs
  pub cuts : new.cuts.items ≡ old.cuts.items
  pub gates : new.gates.items ≡ set old.gates.items (node - old.inputs) (with_sources was sources)
  pub read : was ≡ get_or old.gates.items (node - old.inputs) was
  pub outputs : new.outputs ≡ old.outputs
  pub pins : new.pins ≡ old.pins + length sources

-- then the circuit is the definition's
pub view-PinsCome :
    (old new : Inside) (netlist : Netlist) (was : Gate) (node : ℕ) (sources : List ℕ) → netlist_of_fields old ≡ netlist → HoldsCircuit old →
    IsGateNumber netlist node → PinsCome old new was node sources → netlist_of_fields new ≡ with_pins netlist node sources
view-PinsCome old new netlist was node sources same holds is_gate come =
    let is_gate_of_old : IsGateNumber (netlist_of_fields old) node = subst (λ n. IsGateNumber n node) (sym same) is_gate in
    let within : node - old.inputs < length old.gates.items = omega (arith, holds.circuit.nodes, is_gate_of_old.0, is_gate_of_old.1) in
    let read : was ≡ gate_at (netlist_of_fields old) node =
    come.read ∙ get_or-default old.gates.items (node - old.inputs) was (record { kind = And; sources = [] }) within in
    same_netlist (netlist_of_fields new) (with_pins (netlist_of_fields old) node sources) come.names
    come.inputs come.cuts
    (come.gates ∙ ap (λ gate. set old.gates.items (node - old.inputs) (with_sources gate sources)) read)
    come.outputs ∙ ap (λ n. with_pins n node sources) same

-- and the invariant holds again
pub HoldsCircuit-PinsCome :
    (old new : Inside) (netlist : Netlist) (was : Gate) (node : ℕ) (sources : List ℕ) → netlist_of_fields old ≡ netlist → HoldsCircuit old →
    IsGateNumber netlist node → PinsCome old new was node sources → All (λ source. source < length netlist.names) sources →
    length (gate_at netlist node).sources + length sources ≤ most_pins (gate_at netlist node).kind →
    variable_count netlist + length sources ≤ most_variables → HoldsCircuit new
HoldsCircuit-PinsCome old new netlist was node sources same holds is_gate come are_nodes free room =
    let circuit = circuit_of old netlist same holds in
    holds_circuit new (with_pins netlist node sources) (view-PinsCome old new netlist was node sources same holds is_gate come)
    (IsCircuit-with_pins netlist node sources circuit is_gate are_nodes free room)
    (come.pins ∙ ap (λ n. n + length sources) (holds.counted ∙ ap pin_count same) ∙ sym (pin_count-with_pins netlist node sources circuit is_gate))

-- how many names, of a list of keys
pub names_counted : (fields : Inside) (netlist : Netlist) → netlist_of_fields fields ≡ netlist → length fields.names.keys ≡ length netlist.names
names_counted fields netlist same =
    ap (λ n. length n.names) same

-- the key that is looked for stands where its name does
pub found_at :
    (fields : Inside) (netlist : Netlist) (name : List ℕ) → netlist_of_fields fields ≡ netlist →
    position (bytes_eq name) fields.names.keys ≡ node_named netlist name
found_at fields netlist name same =
    ap (λ n. node_named n name) same
