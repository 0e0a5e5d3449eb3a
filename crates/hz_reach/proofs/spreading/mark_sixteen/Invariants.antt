use Rattle.std.proofs.Common.{◌≡◌, ◌++◌}
use Rattle.hz_reach.proofs.Words.{filtered_range}
use Rattle.hz_reach.specs.Turn.{is_unchanged}
use Rattle.hz_reach.proofs.spreading.mark_sixteen.Given as goal

-- the variables so far that are X and have not changed are marked
abbrev pub invariant-loop-place : goal.invariant-loop-place
invariant-loop-place l =
    (l.scratch.marked ≡ l.fn.scratch.marked ++ filtered_range (is_unchanged l.a l.start l.fn.scratch.state) l.first l.place)
    × (l.scratch.state ≡ l.fn.scratch.state) × (l.scratch.sorted ≡ l.fn.scratch.sorted) × (l.scratch.by_round ≡ l.fn.scratch.by_round)
