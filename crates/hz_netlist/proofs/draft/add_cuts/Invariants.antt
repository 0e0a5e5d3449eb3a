use Rattle.std.proofs.Common.{◌≡◌, drop, fold}
use Rattle.hz_netlist.specs.Build.{AreAdmissibleSteps}
use Rattle.hz_netlist.specs.Draft.{MayAddCutNumbered, with_cut_numbered}
use Rattle.hz_netlist.specs.Names.{name_at}
use Rattle.hz_netlist.proofs.draft.add_cuts.Given as goal

abbrev pub invariant-loop-cut : goal.invariant-loop-cut
invariant-loop-cut l = record {
  rest : fold (with_cut_numbered (name_at l.names)) l.circuit (drop l.cut-index l.cuts) ≡ fold (with_cut_numbered (name_at l.names)) l.fn.circuit l.cuts;
  may : AreAdmissibleSteps (MayAddCutNumbered (name_at l.names)) (with_cut_numbered (name_at l.names)) l.circuit (drop l.cut-index l.cuts);
}
