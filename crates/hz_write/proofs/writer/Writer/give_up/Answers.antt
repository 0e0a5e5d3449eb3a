-- Nothing more is put, or nothing was put any more before.
use Rattle.std.proofs.Common.{refl, sym, ◌∙◌}
use Rattle.hz_write.proofs.Writers.{writes_given_up}
use Rattle.hz_write.proofs.writer.Writer.give_up.Goals as goal

pub returns-clause-gave : goal.returns-clause-gave
returns-clause-gave g c = writes_given_up refl refl (sym c.is_some.ensures ∙ c.if-is_some.false) refl
