-- By the table, or by the word of the gate.
use Rattle.std.proofs.Common.{refl, sym}
use Rattle.hz_orders.proofs.Folded.{own-bound, counted-fold, count-bound}
use Rattle.hz_orders.proofs.Moves.{most-under}
use Rattle.hz_orders.proofs.table.count_under.Goals as goal

pub returns-then-not-have_table-clause-bound : goal.returns-then-not-have_table-clause-bound
returns-then-not-have_table-clause-bound c =
    own-bound c.args.gate.now.orders.now c.args.gate.now.kind c.args.gate.now.wire c.args.gate.now.pins.now c.args.cap c.fold.result c.requires.pins c.fold.ensures

pub returns-then-not-have_table-clause-counted : goal.returns-then-not-have_table-clause-counted
returns-then-not-have_table-clause-counted c =
    counted-fold c.args.gate.now.kind c.args.gate.now.pins.now c.args.cap c.fold.result c.requires.counted c.fold.ensures

pub returns-clause-exact : goal.returns-clause-exact
returns-clause-exact c =
    λ table words are_words capped. (
      c.in_ok-most.most,
      most-under c.args.gate.now.orders.now c.args.gate.now.kind c.args.gate.now.wire c.args.gate.now.pins.now c.args.cap c.in_ok-most.most words are_words capped table.exact c.in_ok-most.ensures,
      sym c.capped.ensures.value,
    )

pub returns-clause-bound : goal.returns-clause-bound
returns-clause-bound c =
    let table = c.if-not-have_table.ensures.some refl in
    count-bound c.args.gate.now.orders.now c.args.gate.now.kind c.args.gate.now.wire c.args.gate.now.pins.now c.args.cap c.capped.result
    (λ words are_words capped. (
      c.in_ok-most.most,
      most-under c.args.gate.now.orders.now c.args.gate.now.kind c.args.gate.now.wire c.args.gate.now.pins.now c.args.cap c.in_ok-most.most words are_words capped table.exact c.in_ok-most.ensures,
      sym c.capped.ensures.value,
    ))
