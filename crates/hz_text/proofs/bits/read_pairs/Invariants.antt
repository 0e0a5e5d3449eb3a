use Rattle.std.proofs.Common.{◌≡◌, take}
use Rattle.std.specs.List.{filter_map}
use Rattle.hz_text.specs.Bits.{pair_of}
use Rattle.hz_text.proofs.bits.read_pairs.Given as goal

abbrev pub invariant-loop-assigned : goal.invariant-loop-assigned
invariant-loop-assigned l = l.pairs.items ≡ filter_map pair_of (take l.assigned-index l.all)
