-- There is room: the piece waits.
use Rattle.std.proofs.Common.{◌≡◌, ◌++◌, ap, append_assoc, sym}
use Rattle.hz_outside.specs.WrittenText.{Took, with_more}
use Rattle.hz_outside.proofs.WrittenLemmas.{Took-waits}
use Rattle.hz_outside.proofs.gathered.GatheredSink.put.Goals as goal

pub returns-clause-whole : goal.returns-clause-whole
returns-clause-whole g c =
    rw (c.hold.ensures, ← append_assoc)
    (Took-waits (with_more (g.K.Sink.output c.args.self.now.out) c.args.self.now.gathered) c.args.piece.now)
