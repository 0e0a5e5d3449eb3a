-- What a variable of a network is says how it is driven.
use Rattle.std.proofs.Common.{◌≡◌, ℕ, ◌+◌, ◌<◌, ◌≤◌, length, get_or, Some, IsTrue, slice_get, sym, ap, ◌∙◌, subst, arith}
use Rattle.std.proofs.lemmas.List.{get_or_default}
use Rattle.hz_core.specs.Gate.{takes}
use Rattle.hz_core.specs.Netlist.{Netlist, IsCircuit, IsWhole, variable_count}
use Rattle.hz_net.specs.Network.{Function, network_of, driver_at}
use Rattle.hz_net.specs.Variables.{variable_kinds, first_wire}
use Rattle.hz_net.specs.Entries.{driver_of, entry_kind, entries_of, IsEntryAt}
use Rattle.hz_net.specs.Driven.{IsDrivenAs}
use Rattle.hz_net.specs.declared.entry.Entry.{Entry}
use Rattle.hz_net.specs.declared.entry.Entry.TheVariants.{Input as InputEntry, Gate as GateEntry, Wire as WireEntry}
use Rattle.hz_net.specs.declared.variable.VarKind.{VarKind}
use Rattle.hz_net.proofs.Places.{length-network_of, length-entries_of, driver_at-entry, variable_kinds-entry, IsEntryAt-entries_of}
use Rattle.hz_net.proofs.Wired.{is_gate_of, named-into}

-- how a variable is driven, by its entry
driven-entry : (netlist : Netlist) (var : ℕ) (entry : Entry) → IsCircuit netlist → var < variable_count netlist → IsEntryAt netlist var entry → driver_at (network_of netlist) var ≡ driver_of entry → slice_get (variable_kinds netlist) var ≡ Some (entry_kind entry) → IsDrivenAs netlist var (entry_kind entry)
driven-entry netlist var (InputEntry number) circuit within at driven seen = record {
  driven = driven;
  is_input = subst (λ (n : ℕ). n < netlist.inputs) (sym at.0) at.1;
  is_node = omega (arith, at.1, circuit.nodes);
}
driven-entry netlist var (GateEntry kind first pins) circuit within at driven seen = record {
  driven = driven ∙ (ap (λ (n : ℕ). Function kind n pins) at.1 ∙ ap (λ (n : ℕ). Function kind (first_wire netlist var) n) at.2);
  is_gate = at.0;
  inside = subst (λ (n : ℕ). first_wire netlist var + n ≤ length (network_of netlist)) at.2 (subst (λ (n : ℕ). n + pins ≤ length (network_of netlist)) at.1 at.3);
  takes_pins = subst (λ (n : ℕ). IsTrue (takes kind n)) at.2 at.4;
}
driven-entry netlist var (WireEntry pin gate source) circuit within at driven seen =
    let into = named-into netlist circuit var gate pin source at.0 within seen in record {
      driven = driven;
      from_node = at.1;
      into = into;
      into_node = (is_gate_of netlist circuit gate into.kind into.first into.pins into.driven).is_gate.1;
      above = at.0;
    }

some-same : (a b : VarKind) → Some a ≡ Some b → a ≡ b
some-same a b e = cc

-- what a variable is, says how it is driven
pub driven-as : (netlist : Netlist) (var : ℕ) (kind : VarKind) → IsCircuit netlist → IsWhole netlist → var < length (network_of netlist) → slice_get (variable_kinds netlist) var ≡ Some kind → IsDrivenAs netlist var kind
driven-as netlist var kind circuit whole within seen =
    let few : var < variable_count netlist = omega (arith, within, length-network_of netlist circuit) in
    let entry = get_or (entries_of netlist) var (InputEntry 0) in
    let read : entry ≡ get_or (entries_of netlist) var entry = get_or_default (entries_of netlist) var (InputEntry 0) entry (omega (arith, few, length-entries_of netlist circuit)) in
    let told = variable_kinds-entry netlist var entry circuit few read in
    subst (IsDrivenAs netlist var) (some-same (entry_kind entry) kind (sym told ∙ seen))
    (driven-entry netlist var entry circuit few (IsEntryAt-entries_of netlist var (InputEntry 0) circuit whole few) (driver_at-entry netlist var entry circuit few read) told)

-- a node is a variable
pub node-inside : (netlist : Netlist) → IsCircuit netlist → {node : ℕ} → node < length netlist.names → node < length (network_of netlist)
node-inside netlist circuit inside = omega (arith, inside, length-network_of netlist circuit)
