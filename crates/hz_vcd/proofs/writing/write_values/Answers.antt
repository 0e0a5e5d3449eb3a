-- One bit after the other.
use Rattle.std.proofs.Common.{sym}
use Rattle.hz_write.proofs.Writers.{writes_then, flat_map_of_range}
use Rattle.hz_vcd.specs.Inside.{value_line}
use Rattle.hz_vcd.proofs.writing.write_values.Goals as goal

pub loop-var-preserved : goal.loop-var-preserved
loop-var-preserved g c = record {
  gave = writes_then c.loop-var.invariant.gave c.write_value.ensures.gave (sym (flat_map_of_range (value_line c.args.state.now) c.loop-var.var));
  waits = λ _. c.write_value.ensures.none_waits;
}
