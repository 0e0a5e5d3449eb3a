-- One row after the other.
use Rattle.std.proofs.Common.{◌≡◌, get_or, sym, arith}
use Rattle.std.proofs.lemmas.Option.{slice_get-get_or}
use Rattle.hz_write.proofs.Writers.{writes_then}
use Rattle.hz_report.specs.Report.{shown_count}
use Rattle.hz_report.proofs.ShownLemmas.{no_row}
use Rattle.hz_report.proofs.RowLemmas.{row_lines_more, shown-within, take-shown}
use Rattle.hz_report.proofs.rows.write_rows.Goals as goal

pub write_row-requires-clause-var : goal.write_row-requires-clause-var
write_row-requires-clause-var g c = omega (arith, shown-within c.args.net.now c.args.show c.shown_count-count.ensures.circuit)

pub loop-var-preserved : goal.loop-var-preserved
loop-var-preserved g c =
    let rows = c.args.rows.now in
    let var = c.loop-var.var in
    let row = get_or rows var no_row in
    let there = slice_get-get_or rows var no_row (omega (arith, c.requires.rows, shown-within c.args.net.now c.args.show c.shown_count-count.ensures.circuit)) in (
      writes_then c.loop-var.invariant.0 (c.write_row.ensures.gave row there) (sym (row_lines_more c.args.net.now rows var row there)),
      c.write_row.ensures.none_waits,
    )

pub returns-clause-gave : goal.returns-clause-gave
returns-clause-gave g c =
    let every : c.loop-var.var ≡ shown_count c.args.net.now c.args.show = omega arith in
    rw (every, take-shown c.args.net.now c.args.show c.args.rows.now c.requires.rows) at c.loop-var.invariant.0
