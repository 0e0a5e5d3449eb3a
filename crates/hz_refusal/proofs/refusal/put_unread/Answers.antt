use Rattle.hz_refusal.specs.Refusal.{unread_line}
use Rattle.hz_refusal.proofs.refusal.put_unread.Goals as goal

pub returns : goal.returns
unfolding unread_line
returns g c = rw c.place_word.ensures at c.put_line.ensures
