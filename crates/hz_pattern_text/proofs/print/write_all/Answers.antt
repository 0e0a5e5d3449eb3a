-- The line of each pattern.
use Rattle.std.proofs.Common.{sym}
use Rattle.hz_write.proofs.Writers.{writes_then, flat_map_of_take}
use Rattle.hz_pattern_text.specs.PatternPrinted.{pattern_text}
use Rattle.hz_pattern_text.proofs.PatternPrintLemmas.{pattern_there}
use Rattle.hz_pattern_text.proofs.print.write_all.Goals as goal

pub loop-number-preserved : goal.loop-number-preserved
loop-number-preserved g c =
    let patterns = c.args.patterns.now.patterns in
    let number = c.loop-number.number in
    let there = pattern_there patterns number c.from.result.now c.to.result.now c.from.ensures c.to.ensures in (
      writes_then c.loop-number.invariant.0 c.write_pattern.ensures.gave
          (sym (flat_map_of_take pattern_text patterns number (record { from = c.from.result.now; to = c.to.result.now }) there)),
      c.write_pattern.ensures.none_waits,
    )
