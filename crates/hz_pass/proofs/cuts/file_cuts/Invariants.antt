use Rattle.std.proofs.Common.{ℕ, map, Vec, Global}
use Rattle.hz_pass.specs.CutLists.{AreDataCutsBelow}
use Rattle.hz_pass.proofs.cuts.file_cuts.Given as goal

-- the cuts so far are in their lists
abbrev pub invariant-loop-cut : goal.invariant-loop-cut
invariant-loop-cut l = AreDataCutsBelow l.circuit (map (λ (list : Vec ℕ Global). list.items) l.lists) l.cut
