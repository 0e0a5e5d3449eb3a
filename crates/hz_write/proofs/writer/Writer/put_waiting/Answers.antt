-- What waited was put, or a put failed, or had failed before.
use Rattle.std.proofs.Common.{[], refl, sym, ◌∙◌}
use Rattle.std.proofs.lemmas.List.{append-nil}
use Rattle.hz_write.proofs.Writers.{writes_failed, writes_ended, writes_stopped}
use Rattle.hz_write.proofs.writer.Writer.put_waiting.Goals as goal

pub returns-then-is_some-clause-gave : goal.returns-then-is_some-clause-gave
returns-then-is_some-clause-gave g c = writes_failed [] (sym c.is_some.ensures ∙ c.if-is_some.true)

pub returns-in-Err-clause-gave : goal.returns-in-Err-clause-gave
returns-in-Err-clause-gave g c =
    writes_stopped [] refl (sym c.is_some.ensures ∙ c.if-is_some.false) refl (rw (append-nil c.args.self.now.line) c.in-Err.ensures.wrote)

pub returns-in_default-clause-gave : goal.returns-in_default-clause-gave
returns-in_default-clause-gave g c =
    writes_ended [] refl (sym c.is_some.ensures ∙ c.if-is_some.false) refl c.in_default.ensures.emptied (rw (append-nil c.args.self.now.line) c.in_default.ensures.wrote)
