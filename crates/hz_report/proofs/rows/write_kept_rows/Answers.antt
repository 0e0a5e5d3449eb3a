-- A row at rest is written over that of its node; before another row the lines so far are given.
use Rattle.std.proofs.Common.{◌≡◌, ◌∙◌, ◌+◌, ◌<◌, ◌≤◌, Some, length, take, get_or, slice_get, sym, arith}
use Rattle.std.proofs.lemmas.Option.{slice_get-get_or}
use Rattle.hz_net.proofs.Places.{length-network_of}
use Rattle.hz_desk.specs.RowsOf.{row_at_rest}
use Rattle.hz_write.specs.Writer.{Writes, NoneWaits}
use Rattle.hz_write.proofs.Writers.{writes_nothing, writes_same, writes_then}
use Rattle.hz_report.specs.Report.{row_lines}
use Rattle.hz_report.proofs.ShownLemmas.{ArePut, put-begin, put-skip, put-set, put-shown, put-under, no_row}
use Rattle.hz_report.proofs.KeptLemmas.{kept-lines, lines-joined}
use Rattle.hz_report.proofs.RowLemmas.{row_lines_more}
use Rattle.hz_report.proofs.rows.write_kept_rows.Goals as goal
use Rattle.hz_report.proofs.rows.write_kept_rows.Goals.{in-Some, in-None}

pub first_not_shown-var-requires-clause-rows : goal.first_not_shown-var-requires-clause-rows
first_not_shown-var-requires-clause-rows g c =
    let netlist = c.args.net.now in
    let count : c.nodes-count.result ≡ length netlist.names = rw c.circuit.ensures.same at c.nodes-count.ensures.nodes in
    omega (arith, count, c.requires.rows, length-network_of netlist c.circuit.ensures.circuit)

pub loop-var-init : goal.loop-var-init
loop-var-init g c =
    let netlist = c.args.net.now in
    let rows = c.args.rows.now in
    let first = c.first_not_shown-var.result in
    let count : c.nodes-count.result ≡ length netlist.names = rw c.circuit.ensures.same at c.nodes-count.ensures.nodes in
    let within : first ≤ length netlist.names = omega (arith, count, c.first_not_shown-var.ensures.inside) in (
      put-shown netlist rows c.args.begins.now 0 0 first c.args.text.now c.args.shown.now (omega arith) within c.first_not_shown-var.ensures.stay
          (put-begin netlist rows c.args.begins.now c.args.text.now c.args.shown.now c.requires.kept),
      writes_nothing c.args.writer.now,
      c.requires.none_waits,
      within,
    )

pub rest-requires : goal.rest-requires
rest-requires g c =
    let netlist = c.args.net.now in
    let count : c.nodes-count.result ≡ length netlist.names = rw c.circuit.ensures.same at c.nodes-count.ensures.nodes in
    omega (arith, count, c.loop-var-test.true, c.requires.rows, length-network_of netlist c.circuit.ensures.circuit)

pub first_not_shown-var-requires-in-loop-var-clause-rows : goal.first_not_shown-var-requires-in-loop-var-clause-rows
first_not_shown-var-requires-in-loop-var-clause-rows g c =
    let netlist = c.args.net.now in
    let count : c.nodes-count.result ≡ length netlist.names = rw c.circuit.ensures.same at c.nodes-count.ensures.nodes in
    omega (arith, count, c.requires.rows, length-network_of netlist c.circuit.ensures.circuit)

pub write_row-requires-clause-var : goal.write_row-requires-clause-var
write_row-requires-clause-var g c =
    let netlist = c.args.net.now in
    let count : c.nodes-count.result ≡ length netlist.names = rw c.circuit.ensures.same at c.nodes-count.ensures.nodes in
    omega (arith, count, c.loop-var-test.true, length-network_of netlist c.circuit.ensures.circuit)

pub loop-var-preserved : goal.loop-var-preserved
loop-var-preserved g c =
    let netlist = c.args.net.now in
    let rows = c.args.rows.now in
    let from = c.loop-var.from in
    let var = c.loop-var.var in
    let text = c.loop-var.text in
    let begins = c.args.begins.now in
    let so_far = c.loop-var.invariant in
    let next = c.first_not_shown-var-in-loop-var in
    let now = c.match-rest in
    let count : c.nodes-count.result ≡ length netlist.names = rw c.circuit.ensures.same at c.nodes-count.ensures.nodes in
    let within : var < length netlist.names = omega (arith, count, c.loop-var-test.true) in
    let enough : length netlist.names ≤ length rows = omega (arith, c.requires.rows, length-network_of netlist c.circuit.ensures.circuit) in
    let under = put-under netlist rows begins from var text c.loop-var.shown (omega (arith, within, so_far.0.ordered)) so_far.0 in
    let there : slice_get rows var ≡ Some (get_or rows var no_row) = slice_get-get_or rows var no_row (omega (arith, within, enough)) in
    let more : ArePut netlist rows now.from (var + 1) now.text begins now.shown
    × Writes g.K.Sink.output g.K.Sink.faults (row_lines netlist 0 (take now.from rows)) c.args.writer.now now.writer
    × NoneWaits now.writer =
    elim c.match-rest.branch [
      | in-Some w ↦ rw (w.writer-is, w.text-is, w.shown-is, w.from-is, w.set_row.ensures.written, w.set.ensures) (
        put-set netlist rows begins from var (row_at_rest w.in-Some.rest) w.rest_text.result.now text c.loop-var.shown (Some w.in-Some.rest) enough within
            w.in-Some.ensures w.rest_text.ensures w.set_row.ensures.long w.in-Some.ensures so_far.0,
        so_far.1,
        so_far.2,
      )
      | in-None w ↦ rw (w.writer-is, w.text-is, w.shown-is, w.from-is) (
        put-skip netlist rows begins from var text c.loop-var.shown so_far.0,
        writes_then
            (writes_then so_far.1
            (writes_same w.write_kept_lines.ensures.gave (kept-lines netlist rows from var text begins enough (omega (arith, within)) under))
            (lines-joined netlist rows from var so_far.0.ordered (omega (arith, within, enough))))
            (w.write_row.ensures.gave (get_or rows var no_row) there) (sym (row_lines_more netlist rows var (get_or rows var no_row) there)),
        w.write_row.ensures.none_waits,
      )
    ] in
    let few : next.result ≤ length netlist.names = omega (arith, count, next.ensures.inside) in (
      put-shown netlist rows begins now.from (var + 1) next.result now.text now.shown next.ensures.more few next.ensures.stay more.0,
      more.1,
      more.2,
      few,
    )

pub returns-clause-gave : goal.returns-clause-gave
returns-clause-gave g c =
    let netlist = c.args.net.now in
    let rows = c.args.rows.now in
    let count : c.nodes-count.result ≡ length netlist.names = rw c.circuit.ensures.same at c.nodes-count.ensures.nodes in
    let end : c.nodes-count.result ≡ c.loop-var.var = omega (arith, count, c.loop-var-test.false, c.loop-var.invariant.3) in
    let enough : length netlist.names ≤ length rows = omega (arith, c.requires.rows, length-network_of netlist c.circuit.ensures.circuit) in
    let lines = kept-lines netlist rows c.loop-var.from c.loop-var.var c.loop-var.text c.args.begins.now enough (omega (arith, count, end)) (put-under c.args.net.now c.args.rows.now c.args.begins.now c.loop-var.from c.loop-var.var c.loop-var.text c.loop-var.shown (omega (arith, count, end, c.loop-var.invariant.0.ordered)) c.loop-var.invariant.0) in
    let all : c.loop-var.var ≡ length netlist.names = sym end ∙ count in
    rw all at (writes_then c.loop-var.invariant.1 (writes_same (rw end at c.write_kept_lines-2.ensures.gave) lines)
    (lines-joined netlist rows c.loop-var.from c.loop-var.var c.loop-var.invariant.0.ordered (omega (arith, count, end, enough))))
