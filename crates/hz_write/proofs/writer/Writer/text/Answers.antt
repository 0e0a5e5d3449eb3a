-- There is room: all of the text waits.
use Rattle.std.proofs.Common.{refl}
use Rattle.hz_write.proofs.Writers.{writes_waiting}
use Rattle.hz_write.proofs.writer.Writer.text.Goals as goal

pub returns-then-text-room : goal.returns-then-text-room
returns-then-text-room g c = writes_waiting c.args.text.now refl refl refl c.push.ensures
