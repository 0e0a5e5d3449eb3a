use Rattle.std.proofs.Common.{◌≡◌, length}
use Rattle.hz_reach.proofs.SpreadSteps.{IsSpreading}
use Rattle.hz_reach.proofs.spreading.sparing_in_order.Given as goal

-- the gates so far have had their turns
abbrev pub invariant-loop-place : goal.invariant-loop-place
invariant-loop-place l =
    record {
      at : IsSpreading l.change.net.now l.change.input.now l.change.start.now l.rank l.fn.run l.place l.scratch l.run;
      end : l.place-end ≡ length l.scratch.sorted;
    }
