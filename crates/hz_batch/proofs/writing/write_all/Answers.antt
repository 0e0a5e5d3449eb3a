-- The lines of all blocks, and the last line.
use Rattle.std.proofs.Common.{◌∙◌, sym}
use Rattle.hz_batch.proofs.Texts.{text-given, text-cut}
use Rattle.hz_batch.proofs.writing.write_all.Goals as goal

pub returns-then-has_failed-clause-gave : goal.returns-then-has_failed-clause-gave
returns-then-has_failed-clause-gave g c =
    let gave = c.write_blocks.ensures.gave in
    text-cut c.args.work.now.job c.args.work.now.net.now c.args.work.now.patterns.now gave.0 c.args.writer.now c.write_blocks.new.writer gave.1 gave.2 (sym c.has_failed.ensures ∙ c.if-has_failed.true)

pub returns-clause-gave : goal.returns-clause-gave
returns-clause-gave g c =
    let gave = c.write_blocks.ensures.gave in
    text-given c.args.work.now.job c.args.work.now.net.now c.args.work.now.patterns.now gave.0 c.write_blocks.new.room.counts c.count.result c.args.writer.now c.write_blocks.new.writer c.write.new.writer
    gave.1 c.count.ensures (gave.3 (sym c.has_failed.ensures ∙ c.if-has_failed.false)) gave.2 c.write.ensures.gave
