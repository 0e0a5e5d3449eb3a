-- By the lemma of this crate.
use Rattle.hz_gen.proofs.AtRest.{starts}
use Rattle.hz_gen.proofs.demo_starts.Goals as goal

pub returns : goal.returns
returns c = starts
