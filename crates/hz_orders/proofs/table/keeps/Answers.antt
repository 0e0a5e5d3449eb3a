-- The order at the place is not kept.
use Rattle.hz_orders.proofs.table.keeps.Goals as goal

pub returns-then-not-keeps_one-clause-others : goal.returns-then-not-keeps_one-clause-others
returns-then-not-keeps_one-clause-others c = λ kept. c.if-not-keeps_one.ensures.others (kept c.loop-place.place _ c.loop-place-test.true)
