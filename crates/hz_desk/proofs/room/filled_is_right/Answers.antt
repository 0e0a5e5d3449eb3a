-- By the laws of the crates below.
use Rattle.hz_desk.proofs.RightFindings.{right-finding}
use Rattle.hz_desk.proofs.room.filled_is_right.Goals as goal

pub returns : goal.returns
returns c = right-finding c.a_covers.ensures c.b_covers.ensures c.a_is_exact.ensures c.runs_show_b.ensures c.words_cover.ensures
