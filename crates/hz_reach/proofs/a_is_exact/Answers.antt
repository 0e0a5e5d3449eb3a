-- The spread run shows each X, and the law that Algorithm A covers says the rest.
use Rattle.hz_reach.proofs.Exact.{exact}
use Rattle.hz_reach.proofs.a_is_exact.Goals as goal

pub returns : goal.returns
returns c = exact c.a_covers.ensures
