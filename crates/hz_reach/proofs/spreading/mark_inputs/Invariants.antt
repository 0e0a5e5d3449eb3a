use Rattle.std.proofs.Common.{◌≡◌}
use Rattle.hz_reach.proofs.Words.{differs, bit_at, filtered_range}
use Rattle.hz_reach.proofs.spreading.mark_inputs.Given as goal

-- the inputs so far that differ are marked
abbrev pub invariant-loop-var : goal.invariant-loop-var
invariant-loop-var l =
    (l.scratch.marked ≡ filtered_range (λ i. differs (bit_at l.start i) (bit_at l.input i)) 0 l.var)
    × (l.scratch.state ≡ l.fn.scratch.state) × (l.scratch.sorted ≡ l.fn.scratch.sorted)
