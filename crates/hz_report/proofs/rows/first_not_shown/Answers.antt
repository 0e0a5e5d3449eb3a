-- Nodes that stay, eight at a time or one.
use Rattle.std.proofs.Common.{refl, arith}
use Rattle.hz_report.proofs.ShownLemmas.{shown-more}
use Rattle.hz_report.proofs.rows.first_not_shown.Goals as goal

pub loop-var-init : goal.loop-var-init
loop-var-init c = (λ i above below. absurd (omega (arith, above, below)), omega arith, c.requires.from)

pub loop-var-preserved-then-eight_stay : goal.loop-var-preserved-then-eight_stay
loop-var-preserved-then-eight_stay c =
    let inside = c.eight_stay.ensures.inside c.if-eight_stay.true in (
      shown-more c.args.rows.now c.args.shown.now c.args.from c.loop-var.var 8 (c.eight_stay.ensures.stay c.if-eight_stay.true) c.loop-var.invariant.0,
      omega (arith, c.loop-var.invariant.1),
      inside,
    )

pub loop-var-preserved : goal.loop-var-preserved
loop-var-preserved c = (
  shown-more c.args.rows.now c.args.shown.now c.args.from c.loop-var.var 1 (c.if-not-are_in.ensures refl) c.loop-var.invariant.0,
  omega (arith, c.loop-var.invariant.1),
  omega (arith, c.loop-var-test.true),
)
