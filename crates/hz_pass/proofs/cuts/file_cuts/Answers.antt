use Rattle.std.proofs.Common.{◌≡◌, ◌∙◌, ◌<◌, ◌+◌, ℕ, List, Some, length, map, sym, subst, arith, Vec, Global}
use Rattle.hz_core.specs.Netlist.{IsCutNumber, data_of}
use Rattle.hz_core.proofs.CircuitLemmas.{data_of-node}
use Rattle.hz_pass.specs.CutLists.{AreDataCutsBelow}
use Rattle.hz_pass.proofs.CutLists.{filed-none, filed-more}
use Rattle.hz_pass.proofs.cuts.file_cuts.Goals as goal
use Rattle.hz_pass.proofs.cuts.file_cuts.Goals.{in-Some+in_ok-file, in_default}

pub loop-cut-preserved : goal.loop-cut-preserved
loop-cut-preserved c =
    let netlist = c.args.circuit.now in
    let cut = c.loop-cut.cut in
    let lists = map (λ (list : Vec ℕ Global). list.items) c.loop-cut.lists in
    let is_cut : IsCutNumber netlist cut = (omega (arith, c.loop-cut.auto.cut, c.primary_inputs-cut.ensures.inputs), omega (arith, c.loop-cut-test.true, c.inputs-cut-end.ensures.inputs)) in
    elim c.match-data_of.branch [
      | in-Some+in_ok-file w ↦ (
          let is_data : data_of netlist cut ≡ Some w.in-Some.node = sym c.data_of.ensures.node ∙ w.in-Some.is in
          let inside : w.in-Some.node < length lists = omega (arith, c.loop-cut.invariant.long, data_of-node netlist cut w.in-Some.node c.data_of.ensures.circuit is_cut.1 is_data) in
          subst (λ (all : List (Vec ℕ Global)). AreDataCutsBelow netlist (map (λ (list : Vec ℕ Global). list.items) all) (cut + 1)) (sym w.lists-is)
          (filed-more netlist lists (map (λ (list : Vec ℕ Global). list.items) w.file.new.lists) w.in-Some.node cut (record { is_cut = is_cut; is_data = is_data }) inside w.in_ok-file.ensures c.loop-cut.invariant)
          )
      | in_default w ↦ subst (λ (all : List (Vec ℕ Global)). AreDataCutsBelow netlist (map (λ (list : Vec ℕ Global). list.items) all) (cut + 1)) (sym w.lists-is)
          (filed-none netlist lists cut (sym c.data_of.ensures.node ∙ w.in_default.is) c.loop-cut.invariant)
    ]
