-- One declaration after the other.
use Rattle.std.proofs.Common.{sym}
use Rattle.hz_write.proofs.Writers.{writes_then, flat_map_of_range}
use Rattle.hz_vcd.specs.Printed.{declaration_line}
use Rattle.hz_vcd.proofs.writing.write_declarations.Goals as goal

pub loop-var-preserved : goal.loop-var-preserved
loop-var-preserved g c = record {
  gave = writes_then c.loop-var.invariant.gave c.write_declaration.ensures.gave
      (sym (flat_map_of_range (declaration_line c.args.net.now) c.loop-var.var));
  waits = λ _. c.write_declaration.ensures.none_waits;
}
