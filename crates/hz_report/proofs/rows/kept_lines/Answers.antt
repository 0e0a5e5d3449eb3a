-- Parts begin in their order, and in the text.
use Rattle.std.proofs.Common.{length, arith}
use Rattle.hz_core.specs.Netlist.{node_name}
use Rattle.hz_write.specs.Writes.{newline}
use Rattle.hz_report.proofs.PartLemmas.{length-begins, begin-ordered, begin-within}
use Rattle.hz_report.proofs.rows.kept_lines.Goals as goal

pub bounds-begins-from : goal.bounds-begins-from
bounds-begins-from c =
    omega (arith, c.requires.ordered, c.requires.within, length-begins (node_name c.args.net.now.names) newline 33 (length c.args.net.now.names) c.args.text.now c.args.begins.now c.requires.kept)

pub bounds-begins-to : goal.bounds-begins-to
bounds-begins-to c =
    omega (arith, c.requires.within, length-begins (node_name c.args.net.now.names) newline 33 (length c.args.net.now.names) c.args.text.now c.args.begins.now c.requires.kept)

pub bytes_between-requires-clause-ordered : goal.bytes_between-requires-clause-ordered
bytes_between-requires-clause-ordered c =
    begin-ordered (node_name c.args.net.now.names) newline 33 (length c.args.net.now.names) c.args.text.now c.args.begins.now c.args.from c.args.to c.requires.kept c.requires.ordered c.requires.within

pub bytes_between-requires-clause-within : goal.bytes_between-requires-clause-within
bytes_between-requires-clause-within c =
    begin-within (node_name c.args.net.now.names) newline 33 (length c.args.net.now.names) c.args.text.now c.args.begins.now c.args.to c.requires.kept c.requires.within

pub offset_bounds-begins-from : goal.offset_bounds-begins-from
offset_bounds-begins-from c =
    omega (arith, c.requires.ordered, c.requires.within, length-begins (node_name c.args.net.now.names) newline 33 (length c.args.net.now.names) c.args.text.now c.args.begins.now c.requires.kept)

pub offset_bounds-begins-to : goal.offset_bounds-begins-to
offset_bounds-begins-to c =
    omega (arith, c.requires.within, length-begins (node_name c.args.net.now.names) newline 33 (length c.args.net.now.names) c.args.text.now c.args.begins.now c.requires.kept)
