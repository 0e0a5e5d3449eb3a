-- The line of each change.
use Rattle.std.proofs.Common.{sym, codes}
use Rattle.hz_write.proofs.Writers.{writes_then, flat_map_of_take}
use Rattle.hz_text.specs.Printed.{statement_text}
use Rattle.hz_script.proofs.print.write_changes.Goals as goal

pub loop-number-preserved : goal.loop-number-preserved
loop-number-preserved g c = (
  writes_then c.loop-number.invariant.0 c.write_statement.ensures.gave
      (sym (flat_map_of_take (statement_text c.args.circuit.now (codes "change")) c.args.script.now.changes c.loop-number.number
      c.change.result.now c.change.ensures.change)),
  c.write_statement.ensures.none_waits,
)
