use Rattle.std.proofs.Common.{◌≡◌, ◌∷◌, take, filter}
use Rattle.hz_reach.proofs.Words.{differs, bit_at, fan_out_of}
use Rattle.hz_reach.proofs.turn.mark_with_fan_out.Given as goal

-- the gate is marked, and of the wires so far those that differ from it
abbrev pub invariant-loop-wire : goal.invariant-loop-wire
invariant-loop-wire l =
    (l.scratch.marked ≡ l.node ∷ filter (λ wire. differs (bit_at l.fn.scratch.state wire) (bit_at l.fn.scratch.state l.node)) (take l.wire-index (fan_out_of l.net l.node)))
    × (l.scratch.state ≡ l.fn.scratch.state) × (l.scratch.sorted ≡ l.fn.scratch.sorted)
