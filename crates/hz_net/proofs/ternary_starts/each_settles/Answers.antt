use Rattle.hz_net.proofs.TernaryStarts.{each_settles, settles_whole}
use Rattle.hz_net.proofs.ternary_starts.each_settles.Goals as goal

pub returns-clause-some : goal.returns-clause-some
returns-clause-some c = each_settles

pub returns-clause-whole : goal.returns-clause-whole
returns-clause-whole c = settles_whole
