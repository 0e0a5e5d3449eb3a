-- There is room: all three wait.
use Rattle.std.proofs.Common.{refl, ◌++◌}
use Rattle.hz_write.proofs.Writers.{writes_waiting}
use Rattle.hz_write.proofs.writer.Writer.three.Goals as goal

pub returns-then-saturating_add-room : goal.returns-then-saturating_add-room
returns-then-saturating_add-room g c =
    writes_waiting (c.args.first.now ++ c.args.second.now ++ c.args.third.now) refl refl refl c.push_three.ensures
