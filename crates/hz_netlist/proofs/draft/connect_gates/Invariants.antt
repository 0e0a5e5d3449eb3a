use Rattle.std.proofs.Common.{◌≡◌, drop}
use Rattle.hz_netlist.specs.Draft.{MayAddPinsBy, with_pins_by}
use Rattle.hz_netlist.proofs.draft.connect_gates.Given as goal

abbrev pub invariant-loop-gate : goal.invariant-loop-gate
invariant-loop-gate l = record {
  rest : with_pins_by l.circuit l.number (drop l.gate-index l.gates) l.left ≡ with_pins_by l.fn.circuit l.first l.gates l.pins;
  may : MayAddPinsBy l.circuit l.number (drop l.gate-index l.gates) l.left;
}
