-- One place more, and all.
use Rattle.std.proofs.Common.{◌∙◌, ℕ, ◌+◌, suc, ◌<◌, List, length, get_or, sym, ap, subst, arith}
use Rattle.hz_orders.specs.Positions.{value_of}
use Rattle.hz_orders.specs.Tables.{IsPlaceAt, no_place}
use Rattle.hz_orders.proofs.Rows.{best-more, best-all, most-of}
use Rattle.hz_orders.proofs.Places.{place-bound, place-attained}
use Rattle.hz_orders.proofs.table.most_from.Goals as goal

pub most_through-more-requires : goal.most_through-more-requires
most_through-more-requires c =
    let inside = c.loop-later-test.true in
    let end = c.len-later-end.ensures in
    let from = c.loop-later.auto.later in
    let few : c.loop-later.later < length c.args.table.now.positions.now = omega (arith, inside, end) in
    let below = (c.requires.most.each c.loop-later.later (omega (arith, from)) few).less in
    let limit = c.requires.table.have.few in
    let all = ap length c.requires.table.all in
    omega (arith, below, limit, all)

pub loop-later-preserved : goal.loop-later-preserved
loop-later-preserved c =
    let gate = c.args.table.now.gate.now in
    let inside = c.loop-later-test.true in
    let end = c.len-later-end.ensures in
    let from = c.loop-later.auto.later in
    let few : c.loop-later.later < length c.args.table.now.positions.now = omega (arith, inside, end) in
    let row = c.requires.most.each c.loop-later.later (omega (arith, from)) few in
    let here = c.requires.table.places.each c.args.place c.requires.place in
    let there = c.requires.table.places.each c.loop-later.later few in
    let is_old = here.value ∙ ap (value_of gate.kind gate.pins.now) (sym c.position-before.ensures) in
    let is_new : IsPlaceAt gate c.position-after.result.now (get_or c.args.table.now.places.now c.loop-later.later no_place) =
    subst (λ (p : List ℕ). IsPlaceAt gate p (get_or c.args.table.now.places.now c.loop-later.later no_place)) (sym c.position-after.ensures) there in
    best-all gate c.args.table.now.positions.now c.args.most.now c.args.place (suc c.loop-later.later) (c.loop-later.later + 1) c.max-best.result (omega arith)
    (best-more gate c.args.table.now.positions.now c.args.most.now c.args.place c.loop-later.later c.loop-later.best c.most_through-more.result c.max-best.result c.position-before.result.now c.position-after.result.now
    (omega (arith, from)) few c.position-before.ensures c.position-after.ensures c.loop-later.invariant
    (place-bound gate c.position-before.result.now c.position-after.result.now _ _ _ c.most_through-more.result is_old is_new c.most_through-more.ensures.bound)
    (place-attained gate c.position-before.result.now c.position-after.result.now _ _ _ c.most_through-more.result is_old is_new c.most_through-more.ensures.attained)
    row.less c.max-best.ensures)

pub returns-clause-most : goal.returns-clause-most
returns-clause-most c =
    let done = c.loop-later-test.false in
    let end = c.len-later-end.ensures in
    let place = c.requires.place in
    let until = c.loop-later.auto.later-end (omega (arith, end, place)) in
    most-of c.args.table.now.gate.now c.args.table.now.positions.now c.args.most.now c.args.place c.loop-later.later c.loop-later.best c.requires.table.have (sym c.requires.table.all) c.requires.place c.requires.most c.loop-later.invariant
    (omega (arith, done, end, until))
