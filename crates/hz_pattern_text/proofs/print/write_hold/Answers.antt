-- Nothing is held.
use Rattle.std.proofs.Common.{◌∙◌, sym}
use Rattle.hz_write.proofs.Writers.{writes_same, writes_nothing}
use Rattle.hz_pattern_text.proofs.PatternPrintLemmas.{hold_none}
use Rattle.hz_pattern_text.proofs.print.write_hold.Goals as goal

pub returns-else-holds_any-clause-gave : goal.returns-else-holds_any-clause-gave
returns-else-holds_any-clause-gave g c =
    writes_same (writes_nothing c.args.writer.now)
    (hold_none c.args.circuit.now c.args.held.now (sym c.holds_any.ensures ∙ c.if-holds_any.false))
