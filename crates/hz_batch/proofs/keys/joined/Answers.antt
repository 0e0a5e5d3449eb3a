use Rattle.hz_batch.proofs.KeyLemmas.{are_joined}
use Rattle.hz_batch.proofs.keys.joined.Goals as goal

pub returns : goal.returns
returns c = are_joined c.args.a c.args.b c.args.c c.args.d
