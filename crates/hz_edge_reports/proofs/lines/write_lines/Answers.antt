-- One line after the other.
use Rattle.std.proofs.Common.{◌≡◌, ◌<◌, length, sym, arith}
use Rattle.hz_write.proofs.Writers.{writes_then}
use Rattle.hz_report.specs.Report.{shown_count}
use Rattle.hz_report.proofs.RowLemmas.{shown-within}
use Rattle.hz_edges.specs.Room.{edges_of}
use Rattle.hz_edge_reports.proofs.EdgeLines.{lines_more}
use Rattle.hz_edge_reports.proofs.lines.write_lines.Goals as goal

pub index-requires : goal.index-requires
index-requires g c =
    omega (arith, c.requires.room.start, shown-within c.args.net.now c.args.show c.keeps_shape.ensures.circuit)

pub index-requires-in-loop-var : goal.index-requires-in-loop-var
index-requires-in-loop-var g c =
    omega (arith, c.requires.room.ends, shown-within c.args.net.now c.args.show c.keeps_shape.ensures.circuit)

pub range-requires-clause-told : goal.range-requires-clause-told
range-requires-clause-told g c =
    omega (arith, c.requires.room.edges.told, shown-within c.args.net.now c.args.show c.keeps_shape.ensures.circuit)

pub range-requires-clause-counts : goal.range-requires-clause-counts
range-requires-clause-counts g c =
    omega (arith, c.requires.room.edges.counts, shown-within c.args.net.now c.args.show c.keeps_shape.ensures.circuit)

pub write_line-requires : goal.write_line-requires
write_line-requires g c = omega (arith, shown-within c.args.net.now c.args.show c.keeps_shape.ensures.circuit)

pub loop-var-preserved : goal.loop-var-preserved
loop-var-preserved g c =
    let room = c.args.room.now in
    let var = c.loop-var.var in
    let within = shown-within c.args.net.now c.args.show c.keeps_shape.ensures.circuit in
    let few_bits : var < length room.start.items = omega (arith, c.requires.room.start, within) in
    let few_ends : var < length room.ends.items = omega (arith, c.requires.room.ends, within) in (
      writes_then c.loop-var.invariant.0 (rw c.range.ensures at c.write_line.ensures.gave)
          (sym (lines_more c.args.net.now (edges_of room.edges) room.start.items room.ends.items var c.index.result.now c.index-in-loop-var.result.now few_bits few_ends c.index.ensures c.index-in-loop-var.ensures)),
      c.write_line.ensures.none_waits,
    )

pub returns-clause-gave : goal.returns-clause-gave
returns-clause-gave g c =
    let every : c.loop-var.var ≡ shown_count c.args.net.now c.args.show = omega arith in
    rw every at c.loop-var.invariant.0
