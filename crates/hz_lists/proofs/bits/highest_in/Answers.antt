use Rattle.std.proofs.Common.{rules}
use Rattle.hz_lists.proofs.BitLemmas.{highest}
use Rattle.hz_lists.proofs.bits.highest_in.Goals as goal

pub returns : goal.returns
returns c = highest c.args.words.now c.args.word (search rules) (search rules) _ (search rules)
