use Rattle.std.proofs.Common.{rules}
use Rattle.hz_lists.proofs.BitLemmas.{lowest}
use Rattle.hz_lists.proofs.bits.lowest_in.Goals as goal

pub returns : goal.returns
returns c = lowest c.args.words.now c.args.word (search rules) (search rules)
