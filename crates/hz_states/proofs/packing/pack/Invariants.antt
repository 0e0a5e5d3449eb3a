use Rattle.std.proofs.Common.{◌≡◌, map}
use Rattle.std.specs.List.{range_with_len}
use Rattle.hz_states.specs.Packing.{byte_at}
use Rattle.hz_states.proofs.packing.pack.Given as goal

abbrev pub invariant-loop-number : goal.invariant-loop-number
invariant-loop-number l = l.bytes.items ≡ map (byte_at l.bits) (range_with_len 0 l.number)
