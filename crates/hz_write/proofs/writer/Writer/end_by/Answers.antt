-- The line was put, or a put failed, or had failed before.
use Rattle.std.proofs.Common.{refl, sym, ◌∙◌}
use Rattle.hz_write.proofs.Writers.{writes_failed, writes_ended, writes_stopped}
use Rattle.hz_write.proofs.writer.Writer.end_by.Goals as goal

pub returns-then-is_some-clause-gave : goal.returns-then-is_some-clause-gave
returns-then-is_some-clause-gave g c = writes_failed c.args.last.now (sym c.is_some.ensures ∙ c.if-is_some.true)

pub returns-in-Err-clause-gave : goal.returns-in-Err-clause-gave
returns-in-Err-clause-gave g c = writes_stopped c.args.last.now refl (sym c.is_some.ensures ∙ c.if-is_some.false) refl c.in-Err.ensures.wrote

pub returns-in_default-clause-gave : goal.returns-in_default-clause-gave
returns-in_default-clause-gave g c =
    writes_ended c.args.last.now refl (sym c.is_some.ensures ∙ c.if-is_some.false) refl c.in_default.ensures.emptied c.in_default.ensures.wrote
