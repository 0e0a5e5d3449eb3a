-- Wires by numbers of pins.
use Rattle.std.proofs.Common.{◌≡◌, ℕ, ◌+◌, ◌-◌, ◌<◌, ◌≤◌, Bool, true, false, ◌&&◌, nat_le, List, [], Option, Some, None, length, refl, arith, cond}
use Rattle.std.specs.Option.{IfSome}
use Rattle.std.specs.Str.{bytes_eq}
use Rattle.std.proofs.lemmas.Bool.Decides.{nat_tests}
use Rattle.std.proofs.lemmas.List.Quantifiers.{position-Some}
use Rattle.hz_core.proofs.CircuitLemmas.{most_pins-bound}
use Rattle.hz_core.specs.declared.kind.Kind.TheVariants.{And}
use Rattle.hz_core.specs.Netlist.{Netlist, IsCircuit, gate_at, node_named}
use Rattle.hz_net.specs.Variables.{first_wire}
use Rattle.hz_run_text.specs.RunResolution.{wire_into}
use Rattle.hz_core.specs.Limits.{most_gate_pins}

-- a node that is found is there
pub node_named-below : (netlist : Netlist) (name : List ℕ) (answer : Option ℕ) → node_named netlist name ≡ answer → IfSome answer (λ node. node < length netlist.names)
node_named-below netlist name None e = tt
node_named-below netlist name (Some node) e = (position-Some (bytes_eq name) netlist.names node [] e).0

-- no gate has so many pins
pub wire_into-above : (netlist : Netlist) (node pin : ℕ) → IsCircuit netlist → node < length netlist.names → netlist.inputs ≤ node → most_gate_pins < pin → wire_into netlist (Some node) pin ≡ None
wire_into-above netlist node pin circuit within gate above =
    let few = circuit.gates (node - netlist.inputs) (record { kind = And; sources = [] }) (omega (arith, within, gate, circuit.nodes)) in
    let most = most_pins-bound (gate_at netlist node).kind in
    let beyond : nat_le pin (length (gate_at netlist node).sources) ≡ false = grind (arith, nat_tests, few.pins, most, above) in
    rw beyond (both-false (nat_le netlist.inputs node) (nat_le 1 pin))
  where
    both-false : (a b : Bool) → cond (a && (b && false)) (Some (first_wire netlist node + (pin - 1))) None ≡ None
    both-false true true = refl
    both-false true false = refl
    both-false false b = refl
