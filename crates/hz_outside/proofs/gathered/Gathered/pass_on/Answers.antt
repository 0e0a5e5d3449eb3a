-- Nothing is put where nothing is gathered.
use Rattle.std.proofs.Common.{◌≡◌}
use Rattle.hz_outside.proofs.WrittenLemmas.{Took-nothing}
use Rattle.hz_outside.proofs.gathered.Gathered.pass_on.Goals as goal

pub returns-then-self-eq0-clause-whole : goal.returns-then-self-eq0-clause-whole
returns-then-self-eq0-clause-whole g c =
    rw (← c.self.view_is, c.if-self-eq0.true) (Took-nothing (g.K.Sink.output c.self.inside.out))
