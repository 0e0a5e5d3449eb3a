-- The pieces, one after the other.
use Rattle.std.proofs.Common.{refl}
use Rattle.hz_text.specs.Printed.{letter_of}
use Rattle.hz_write.proofs.Writers.{writes_then}
use Rattle.hz_report.specs.Report.{changes_word, class_word}
use Rattle.hz_core.specs.Letters.{tri_letter}
use Rattle.hz_report.proofs.RowLemmas.{row-pieces}
use Rattle.hz_report.proofs.rows.write_pieces.Goals as goal

pub returns : goal.returns
returns g c =
    let row = c.args.row in
    let values = rw (c.start_text.ensures, c.a_text.ensures, c.b_text.ensures) at c.three.ensures in
    let class = rw c.spaced_class.ensures at c.text.ensures in
    writes_then (writes_then values c.write_changes.ensures refl) class
    (row-pieces (letter_of row.start) (tri_letter row.a) (tri_letter row.b) (changes_word row.changes) (class_word row.class))
