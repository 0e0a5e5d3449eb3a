use Rattle.hz_text.proofs.LeastFault.{result_by}
use Rattle.hz_run_text.proofs.RunFaultLaws.{accepted, refusal}
use Rattle.hz_run_text.proofs.read.read_accepted_runs.Goals as goal

pub returns : goal.returns
returns c =
    result_by c.read_text.result c.read_text.ensures.checked c.read_text.ensures.below
    (λ entries is below. accepted c.args.net.now c.args.text.now entries.items is below)
    (refusal c.args.net.now c.args.text.now)
