-- The totals in their line.
use Rattle.std.proofs.Common.{◌≡◌, ◌<◌, ℕ, length, get_or, arith, rules, refl}
use Rattle.hz_write.proofs.Writers.{writes_same}
use Rattle.hz_report.specs.Report.{classes_line, count_at}
use Rattle.hz_report.proofs.summary.write_classes.Goals as goal

pub returns-clause-gave : goal.returns-clause-gave
unfolding classes_line
returns-clause-gave g c =
    let totals = c.count_classes.result in
    let places : length totals ≡ 6 = search rules in
    let total : (place : ℕ) → place < 6 → get_or totals place 0 ≡ count_at c.args.rows.now place =
    λ place inside. c.count_classes.ensures place (omega (arith, places)) in
    writes_same c.line.ensures.gave
    (rw (total 0 (omega arith), total 1 (omega arith), total 2 (omega arith), total 3 (omega arith), total 4 (omega arith), total 5 (omega arith)) refl)
