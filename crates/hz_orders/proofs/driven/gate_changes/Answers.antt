-- The word of the gate bounds it under any orders. If the gate has a table, what holds its wires as all orders do bounds it as they do.
use Rattle.hz_orders.proofs.Folded.{own-bound, counted-fold}
use Rattle.hz_orders.proofs.WithTables.{if-both, tabled-bound}
use Rattle.hz_orders.proofs.driven.gate_changes.Goals as goal

pub returns-then-not-has_orders-clause-bound : goal.returns-then-not-has_orders-clause-bound
returns-then-not-has_orders-clause-bound c =
    own-bound c.args.telling.now.orders.now c.args.kind c.args.wire c.args.pins.now c.args.telling.now.cap c.fold.result c.requires.pins c.fold.ensures

pub returns-then-not-has_orders-clause-tabled : goal.returns-then-not-has_orders-clause-tabled
returns-then-not-has_orders-clause-tabled c =
    λ tabled alike. own-bound tabled c.args.kind c.args.wire c.args.pins.now c.args.telling.now.cap c.fold.result c.requires.pins c.fold.ensures

pub returns-then-not-has_orders-clause-counted : goal.returns-then-not-has_orders-clause-counted
returns-then-not-has_orders-clause-counted c =
    counted-fold c.args.kind c.args.pins.now c.args.telling.now.cap c.fold.result c.requires.counted c.fold.ensures

pub returns-clause-tabled : goal.returns-clause-tabled
returns-clause-tabled c =
    if-both c.count_under.result _ _ _ (λ count bound folded tabled alike.
    tabled-bound c.args.telling.now.orders.now tabled c.args.kind c.args.wire c.args.pins.now c.args.telling.now.cap count c.requires.pins bound folded alike)
    c.count_under.ensures.bound c.count_under.ensures.fold
