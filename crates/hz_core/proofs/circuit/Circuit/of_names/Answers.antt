use Rattle.std.proofs.Common.{refl}
use Rattle.hz_core.proofs.FieldLemmas.{HoldsCircuit-empty}
use Rattle.hz_core.proofs.circuit.Circuit.of_names.Goals as goal

pub invariant_of-result : goal.invariant_of-result
invariant_of-result c =
    HoldsCircuit-empty _ c.requires refl c.new.ensures.items c.new-2.ensures.items c.new-3.ensures refl
