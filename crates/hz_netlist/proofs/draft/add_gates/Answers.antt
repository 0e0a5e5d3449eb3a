use Rattle.hz_core.specs.declared.kind.Kind.TheVariants.{And}
use Rattle.hz_netlist.specs.declared.draft.Role.TheVariants.{Inverter}
use Rattle.hz_netlist.specs.Draft.{MayAddGateEntry, with_gate_entry}
use Rattle.hz_netlist.proofs.DraftSteps.{step-at}
use Rattle.hz_netlist.specs.Names.{name_at}
use Rattle.hz_netlist.proofs.draft.add_gates.Goals as goal

pub add_gate-requires-clause-may : goal.add_gate-requires-clause-may
add_gate-requires-clause-may c =
    step-at (MayAddGateEntry (name_at c.args.names.now)) (with_gate_entry (name_at c.args.names.now)) c.loop-gate.circuit c.args.gates.now c.loop-gate.gate-index
    (record { role = Inverter 0; kind = And; output = 0; pins = 0 }) c.loop-gate-test.true c.loop-gate.invariant.may
