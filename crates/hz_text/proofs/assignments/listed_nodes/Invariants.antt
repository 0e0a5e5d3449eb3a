use Rattle.std.proofs.Common.{◌≡◌, map, take}
use Rattle.std.specs.List.{range_with_len}
use Rattle.hz_text.specs.Assignment.{assigns}
use Rattle.hz_text.proofs.assignments.listed_nodes.Given as goal

abbrev pub invariant-loop-assigned : goal.invariant-loop-assigned
invariant-loop-assigned l = l.listed.items ≡ map (assigns (take l.assigned-index l.all)) (range_with_len 0 l.nodes)
