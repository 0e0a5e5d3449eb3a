-- By the lemma of this crate.
use Rattle.hz_orders.proofs.IdealWires.{ideal-keeps}
use Rattle.hz_orders.proofs.laws.ideal_wires_keep.Goals as goal

pub returns : goal.returns
returns c = λ orders netlist input start cap order steps circuit whole begins follows run keeps ideal.
    ideal-keeps orders netlist circuit whole input start begins cap order follows steps run keeps ideal
