use Rattle.hz_states.proofs.PackingLemmas.{IsGathered}
use Rattle.hz_states.proofs.packing.byte_of.Given as goal

abbrev pub invariant-loop-bit : goal.invariant-loop-bit
invariant-loop-bit l =
    (goal.iterator-loop-bit).can_next l.bit-iterator × (goal.iterator-loop-bit).is_finite l.bit-iterator
    × IsGathered l.bit-iterator.iter.rest.now l.bits l.byte
