use Rattle.std.proofs.Common.{ℕ, List, length, map, ap, sym, subst, arith, Vec, Global}
use Rattle.hz_pass.specs.CutLists.{AreByData}
use Rattle.hz_pass.proofs.CutLists.{by_data-filed, lists_back}
use Rattle.hz_pass.proofs.cuts.cuts_by_data.Goals as goal

pub returns : goal.returns
returns c =
    subst (λ (all : List (Vec ℕ Global)). AreByData c.args.circuit.now c.args.listed.now (map (λ (list : Vec ℕ Global). list.items) all))
    (sym (lists_back c.in_ok-lists.lists.len c.file_cuts.new.lists c.in_ok-lists.lists.items (omega (arith, c.file_cuts.auto.lists, c.as_mut_slice.ensures.len)) (omega (arith, ap length c.as_mut_slice.ensures.value, c.as_mut_slice.ensures.len))))
    (by_data-filed c.args.circuit.now c.args.listed.now (map (λ (list : Vec ℕ Global). list.items) c.file_cuts.new.lists) c.in_ok-file_cuts.ensures)
