use Rattle.hz_text.proofs.LeastFault.{result_by}
use Rattle.hz_script.proofs.ReadLaws.{accepted, refusal}
use Rattle.hz_script.proofs.read.read_accepted.Goals as goal

pub returns : goal.returns
returns c =
    result_by c.read_text.result c.read_text.ensures.checked c.read_text.ensures.below
    (λ entries is below. accepted c.args.circuit.now c.args.text.now entries.items is below)
    (refusal c.args.circuit.now c.args.text.now)
