use Rattle.std.proofs.Common.{◌≡◌, take, length}
use Rattle.hz_text.specs.Bits.{assigned_bits}
use Rattle.hz_text.proofs.bits.list_bits.Given as goal

abbrev pub invariant-loop-node : goal.invariant-loop-node
invariant-loop-node l = l.bits ≡ assigned_bits (take l.node-index l.pairs) (length l.initial.bits)
