use Rattle.std.proofs.Common.{◌≡◌, drop, fold}
use Rattle.hz_netlist.specs.Build.{AreAdmissibleSteps}
use Rattle.hz_netlist.specs.Draft.{MayAddInputNumbered, with_input_numbered}
use Rattle.hz_netlist.specs.Names.{name_at}
use Rattle.hz_netlist.proofs.draft.add_inputs.Given as goal

abbrev pub invariant-loop-input : goal.invariant-loop-input
invariant-loop-input l = record {
  rest : fold (with_input_numbered (name_at l.names)) l.circuit (drop l.input-index l.inputs) ≡ fold (with_input_numbered (name_at l.names)) l.fn.circuit l.inputs;
  may : AreAdmissibleSteps (MayAddInputNumbered (name_at l.names)) (with_input_numbered (name_at l.names)) l.circuit (drop l.input-index l.inputs);
}
