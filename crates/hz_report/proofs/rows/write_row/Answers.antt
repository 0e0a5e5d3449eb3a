-- The variable, and what stands after it.
use Rattle.std.proofs.Common.{◌∙◌, refl, sym, arith}
use Rattle.std.proofs.lemmas.Option.{same_Some}
use Rattle.hz_write.proofs.Writers.{writes_then}
use Rattle.hz_report.specs.Report.{row_line}
use Rattle.hz_report.proofs.rows.write_row.Goals as goal

pub row-requires : goal.row-requires
row-requires g c = omega (arith, c.requires.rows, c.requires.var)

pub returns-clause-gave : goal.returns-clause-gave
unfolding row_line
returns-clause-gave g c = λ row there.
    writes_then (writes_then c.write_variable.ensures (rw (same_Some row c.row.result (sym there ∙ c.row.ensures)) c.write_pieces.ensures) refl) c.end.ensures.gave refl
