use Rattle.std.proofs.Common.{◌≡◌, drop}
use Rattle.hz_core.specs.Netlist.{primary_inputs}
use Rattle.hz_netlist.specs.Draft.{MaySetDataBy, with_data_by}
use Rattle.hz_netlist.proofs.draft.set_data.Given as goal

abbrev pub invariant-loop-node : goal.invariant-loop-node
invariant-loop-node l = record {
  rest : with_data_by l.circuit l.number (drop l.node-index l.nodes) ≡ with_data_by l.fn.circuit (primary_inputs l.fn.circuit) l.nodes;
  may : MaySetDataBy l.circuit l.number (drop l.node-index l.nodes);
}
