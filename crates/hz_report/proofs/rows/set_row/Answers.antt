-- The row stands before the end of its line, which is in the text.
use Rattle.std.proofs.Common.{◌+◌, length, arith}
use Rattle.hz_core.specs.Netlist.{node_name}
use Rattle.hz_write.specs.Writes.{newline}
use Rattle.hz_report.proofs.PartLemmas.{length-begins, middle-within, begin-within}
use Rattle.hz_report.proofs.rows.set_row.Goals as goal

pub bounds-begins-var : goal.bounds-begins-var
bounds-begins-var c =
    omega (arith, c.requires.var, length-begins (node_name c.args.net.now.names) newline 33 (length c.args.net.now.names) c.args.text.now c.args.begins.now c.requires.kept)

pub set_before-requires-clause-room : goal.set_before-requires-clause-room
set_before-requires-clause-room c =
    omega (arith, middle-within (node_name c.args.net.now.names) newline 33 (length c.args.net.now.names) c.args.text.now c.args.begins.now c.args.var c.requires.kept c.requires.var)

pub set_before-requires-clause-within : goal.set_before-requires-clause-within
set_before-requires-clause-within c =
    begin-within (node_name c.args.net.now.names) newline 33 (length c.args.net.now.names) c.args.text.now c.args.begins.now (c.args.var + 1) c.requires.kept (omega (arith, c.requires.var))

pub overflow_add-var : goal.overflow_add-var
overflow_add-var c =
    omega (arith, c.requires.var, length-begins (node_name c.args.net.now.names) newline 33 (length c.args.net.now.names) c.args.text.now c.args.begins.now c.requires.kept, c.type_inv.begins)

pub offset_bounds-begins-var : goal.offset_bounds-begins-var
offset_bounds-begins-var c =
    omega (arith, c.requires.var, length-begins (node_name c.args.net.now.names) newline 33 (length c.args.net.now.names) c.args.text.now c.args.begins.now c.requires.kept, c.type_inv.begins)
