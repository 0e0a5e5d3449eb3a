-- One line after the other.
use Rattle.std.proofs.Common.{◌+◌, ◌≤◌, length, arith, sym}
use Rattle.std.specs.List.{slice_index}
use Rattle.std.proofs.lemmas.List.Edits.{between_none}
use Rattle.hz_core.specs.Netlist.{node_name}
use Rattle.hz_write.specs.Writes.{newline}
use Rattle.hz_write.proofs.Writers.{writes_nothing, writes_same, writes_then}
use Rattle.hz_report.proofs.PartLemmas.{begin-ordered, between-joined}
use Rattle.hz_report.proofs.rows.write_kept_lines.Goals as goal

pub loop-node-init : goal.loop-node-init
loop-node-init g c = record {
  ordered = omega arith;
  gave = writes_same (writes_nothing c.args.writer.now) (sym (between_none c.args.text.now (slice_index c.args.begins.now c.args.from)));
  waits = λ none. none;
}

pub loop-node-preserved : goal.loop-node-preserved
loop-node-preserved g c =
    let node = c.loop-node.node in
    let begins = c.args.begins.now in
    let so_far = c.loop-node.invariant in
    let within : node + 1 ≤ length c.args.net.now.names = omega (arith, c.loop-node-test.true, c.requires.within) in
    let before : node ≤ length c.args.net.now.names = omega (arith, within) in
    let ordered = begin-ordered (node_name c.args.net.now.names) newline 33 (length c.args.net.now.names) c.args.text.now begins in
    record {
      ordered = omega (arith, so_far.ordered);
      gave = writes_then so_far.gave (writes_same c.end_by.ensures.gave c.kept_lines.ensures)
          (between-joined (slice_index begins c.args.from) (slice_index begins node) (slice_index begins (node + 1)) c.args.text.now
          (ordered c.args.from node c.requires.kept so_far.ordered before) (ordered node (node + 1) c.requires.kept (omega arith) within));
      waits = λ _. c.end_by.ensures.none_waits;
    }
