-- One row after the other.
use Rattle.hz_report.proofs.ClassLemmas.{counted-more}
use Rattle.hz_report.proofs.summary.count_classes.Goals as goal

pub loop-var-preserved : goal.loop-var-preserved
loop-var-preserved c =
    counted-more c.args.rows.now c.loop-var.var c.row.result c.loop-var.totals c.class_place.result c.row.ensures c.class_place.ensures.place c.loop-var.invariant
