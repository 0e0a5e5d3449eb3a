-- By the lemmas of this crate.
use Rattle.hz_free.proofs.OneList.{one-list, one-core}
use Rattle.hz_free.proofs.feedback_is_one.Goals as goal

pub returns : goal.returns
returns c = record { cycles = one-list; core = one-core }
