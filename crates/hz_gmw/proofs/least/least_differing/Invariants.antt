use Rattle.std.proofs.Common.{◌≡◌, None, not, drop}
use Rattle.std.specs.Bool.{beq}
use Rattle.hz_net.specs.Network.{bit_at}
use Rattle.hz_gmw.specs.LeastListed.{least_from}
use Rattle.hz_gmw.proofs.least.least_differing.Given as goal

-- what was found and what is left make the whole
abbrev pub invariant-loop-var : goal.invariant-loop-var
invariant-loop-var l = least_from l.found (λ var. not (beq (bit_at l.left var) (bit_at l.right var))) (drop l.var-index l.list) ≡ least_from None (λ var. not (beq (bit_at l.left var) (bit_at l.right var))) l.list
