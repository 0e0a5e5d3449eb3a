-- One block more, or the output failed.
use Rattle.std.proofs.Common.{◌<◌, ◌≤◌, ◌+◌, ◌*◌, ◌∙◌, refl, sym, subst, List, length, take, drop, arith}
use Rattle.std.proofs.lemmas.List.{length-take-le}
use Rattle.hz_pattern_text.specs.PatternValue.{PatternOf}
use Rattle.hz_batch.specs.Blocks.{block_count}
use Rattle.hz_batch.specs.Comes.{comes_to, loaded_by}
use Rattle.hz_batch.specs.Counts.{no_counts}
use Rattle.hz_batch.specs.Written.{AreWritten}
use Rattle.hz_batch.proofs.BlockLaws.{block-begins, blocks-same, take-blocks, after-next}
use Rattle.hz_batch.proofs.Exist.{written-cut, not-both}
use Rattle.hz_batch.proofs.Joined.{written-none, written-then, within-after}
use Rattle.hz_batch.proofs.blocks.write_blocks.Goals as goal

pub loop-block-init : goal.loop-block-init
loop-block-init g c = (rw c.requires.counts (written-none _ _ _ c.args.writer.now no_counts), c.requires.room, refl)

pub returns-then-has_failed-clause-gave : goal.returns-then-has_failed-clause-gave
returns-then-has_failed-clause-gave g c =
    let failed = sym c.has_failed.ensures ∙ c.if-has_failed.true in
    let lines = written-cut g.K.Sink.output g.K.Sink.faults c.args.work.now.job c.args.work.now.net.now c.args.work.now.patterns.now (c.loop-block.block * 512) c.args.writer.now c.loop-block.writer no_counts c.loop-block.room.counts
    c.requires.laws c.keeps_shape.ensures.circuit c.keeps_shape.ensures.whole c.requires.work.patterns failed c.loop-block.invariant.0 in
    (lines.endings, lines.are_endings, lines.lines, λ fine. absurd (not-both failed fine))

pub write_block-requires-clause-counts : goal.write_block-requires-clause-counts
write_block-requires-clause-counts g c =
    let patterns = c.args.work.now.patterns.now.patterns in
    let n = c.loop-block.block * 512 in
    let before = c.loop-block.invariant.0 in
    let below : c.loop-block.block < block_count (length patterns) = blocks-same c.loop-block.block (length patterns) (rw (c.div_ceil-block-end.ensures, c.count.ensures) at c.loop-block-test.true) in
    let begins = block-begins c.loop-block.block (length patterns) below in
    let few : 0 + length (take n patterns) ≤ n = omega (arith, length-take-le n patterns (omega (arith, begins))) in
    within-after (comes_to c.args.work.now.job c.args.work.now.net.now c.args.work.now.patterns.now.held) (take n patterns) before.endings 0 n no_counts c.loop-block.room.counts before.are_endings before.adds
    (record { open_starts = omega arith; unstable_starts = omega arith; unsettled = omega arith }) few

pub loop-block-preserved : goal.loop-block-preserved
loop-block-preserved g c =
    let patterns = c.args.work.now.patterns.now.patterns in
    let netlist = c.args.work.now.net.now in
    let comes = comes_to c.args.work.now.job netlist c.args.work.now.patterns.now.held in
    let block = c.loop-block.block in
    let n = block * 512 in
    let below : block < block_count (length patterns) = blocks-same block (length patterns) (rw (c.div_ceil-block-end.ensures, c.count.ensures) at c.loop-block-test.true) in
    let begins = block-begins block (length patterns) below in
    let more = written-then netlist comes (take n patterns) (take 512 (drop n patterns)) 1 (n + 1) c.args.writer.now c.loop-block.writer c.write_block.new.writer no_counts c.loop-block.room.counts c.write_block.new.room.counts
    (omega (arith, length-take-le n patterns (omega (arith, begins)))) c.loop-block.invariant.0 c.write_block.ensures.gave in (
      subst (λ (list : List PatternOf). AreWritten g.K.Sink.output g.K.Sink.faults netlist comes list 1 c.args.writer.now c.write_block.new.writer no_counts c.write_block.new.room.counts) (take-blocks patterns block) more,
      c.write_block.ensures.room,
      after-next (loaded_by c.args.work.now.job c.args.work.now.patterns.now) c.args.planes.now c.loop-block.planes c.write_block.new.planes block c.loop-block.invariant.2 c.write_block.ensures.planes,
    )

pub returns-then-has_failed-clause-looked : goal.returns-then-has_failed-clause-looked
returns-then-has_failed-clause-looked g c =
    (c.loop-block.block, omega (arith, c.loop-block.auto.block-end, c.div_ceil-block-end.ensures, c.count.ensures), c.loop-block.invariant.2)

pub returns-clause-looked : goal.returns-clause-looked
returns-clause-looked g c =
    (c.loop-block.block, omega (arith, c.loop-block.auto.block-end, c.div_ceil-block-end.ensures, c.count.ensures), c.loop-block.invariant.2)
