-- The bytes were added, or a put failed, or had failed before.
use Rattle.std.proofs.Common.{refl, sym, ◌∙◌}
use Rattle.hz_write.proofs.Writers.{writes_failed, writes_added, writes_stopped}
use Rattle.hz_write.proofs.writer.Writer.overflow.Goals as goal

pub returns-then-is_some : goal.returns-then-is_some
returns-then-is_some g c = writes_failed c.args.text.now (sym c.is_some.ensures ∙ c.if-is_some.true)

pub returns-in-Err : goal.returns-in-Err
returns-in-Err g c = writes_stopped c.args.text.now refl (sym c.is_some.ensures ∙ c.if-is_some.false) refl c.in-Err.ensures.added

pub returns-in_default : goal.returns-in_default
returns-in_default g c = writes_added c.args.text.now refl (sym c.is_some.ensures ∙ c.if-is_some.false) refl c.in_default.ensures.added
