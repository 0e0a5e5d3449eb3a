-- The classes of the nodes so far.
use Rattle.std.proofs.Common.{◌≡◌, map}
use Rattle.hz_explore.proofs.Words.{range_with_len, change_of, class_at, classes_of}
use Rattle.hz_explore.proofs.counting.count_classes.Given as goal

abbrev pub invariant-loop-node : goal.invariant-loop-node
invariant-loop-node l = l.classes ≡ classes_of (map (class_at (change_of l.change)) (range_with_len 0 l.node))
