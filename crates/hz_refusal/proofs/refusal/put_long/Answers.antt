use Rattle.hz_refusal.specs.Refusal.{long_line}
use Rattle.hz_refusal.proofs.refusal.put_long.Goals as goal

pub returns : goal.returns
unfolding long_line
returns g c = rw c.place_word.ensures at c.put_line.ensures
