-- By the lemma of this crate.
use Rattle.hz_free.proofs.Inductively.{inductive-covers}
use Rattle.hz_free.proofs.inductive_covers.Goals as goal

pub returns : goal.returns
returns c = λ netlist input start cap told i steps circuit whole begins is few run.
    inductive-covers netlist circuit whole input start begins cap told is steps run i few
