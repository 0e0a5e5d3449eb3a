use Rattle.std.proofs.Common.{◌≡◌, ◌*◌, length}
use Rattle.hz_reach.proofs.Words.{filtered_range}
use Rattle.hz_reach.specs.Turn.{is_unchanged}
use Rattle.hz_reach.proofs.spreading.mark_unchanged.Given as goal

-- the wires of the blocks so far that are X and have not changed are marked
abbrev pub invariant-loop-block : goal.invariant-loop-block
invariant-loop-block l =
    (l.scratch.marked ≡ filtered_range (is_unchanged l.a l.start l.fn.scratch.state) (length l.net.names) (l.block * 16))
    × (l.scratch.state ≡ l.fn.scratch.state) × (l.scratch.sorted ≡ l.fn.scratch.sorted) × (l.scratch.by_round ≡ l.fn.scratch.by_round)
