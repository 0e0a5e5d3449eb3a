use Rattle.std.proofs.Common.{◌≡◌, drop, fold}
use Rattle.hz_netlist.specs.Build.{AreAdmissibleSteps}
use Rattle.hz_netlist.specs.Draft.{MayAddGateEntry, with_gate_entry}
use Rattle.hz_netlist.specs.Names.{name_at}
use Rattle.hz_netlist.proofs.draft.add_gates.Given as goal

abbrev pub invariant-loop-gate : goal.invariant-loop-gate
invariant-loop-gate l = record {
  rest : fold (with_gate_entry (name_at l.names)) l.circuit (drop l.gate-index l.gates) ≡ fold (with_gate_entry (name_at l.names)) l.fn.circuit l.gates;
  may : AreAdmissibleSteps (MayAddGateEntry (name_at l.names)) (with_gate_entry (name_at l.names)) l.circuit (drop l.gate-index l.gates);
}
