use Rattle.std.proofs.Common.{◌≡◌, length}
use Rattle.hz_reach.proofs.PassTurns.{IsPassing}
use Rattle.hz_reach.proofs.passing.make_pass.Given as goal

-- the gates so far have had their turn
abbrev pub invariant-loop-place : goal.invariant-loop-place
invariant-loop-place l =
    record {
      at : IsPassing l.net l.rank l.b l.fn.scratch.state l.fn.run l.place l.scratch l.run;
      end : l.place-end ≡ length l.scratch.sorted;
    }
