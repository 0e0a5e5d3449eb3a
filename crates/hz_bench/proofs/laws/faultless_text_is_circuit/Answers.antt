-- The law is proved for all texts.
use Rattle.hz_bench.proofs.FaultlessLaws.{faultless-circuit}
use Rattle.hz_bench.proofs.laws.faultless_text_is_circuit.Goals as goal

pub returns : goal.returns
returns c = faultless-circuit
