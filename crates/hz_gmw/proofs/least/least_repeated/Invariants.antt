use Rattle.std.proofs.Common.{◌≡◌, None, drop, length}
use Rattle.hz_gmw.specs.LeastListed.{least_repeat}
use Rattle.hz_gmw.proofs.least.least_repeated.Given as goal

-- what was found and what is left make the whole
abbrev pub invariant-loop-var : goal.invariant-loop-var
invariant-loop-var l =
    (least_repeat l.found l.named (drop l.var-index l.list) ≡ least_repeat None l.fn.named l.list) × (length l.named ≡ length l.fn.named)
