-- One place more, and all.
use Rattle.std.proofs.Common.{◌≡◌, ◌≤◌, ◌-◌, List, ℕ, length, sym, subst, arith, slice_index_or}
use Rattle.hz_orders.specs.Positions.{IsMostFrom, begin}
use Rattle.hz_orders.proofs.Sorted.{some-positions}
use Rattle.hz_orders.proofs.Rows.{rows-from, rows-next, most-begin}
use Rattle.hz_orders.proofs.table.most_from_begin.Goals as goal

pub most_from-from_here-requires-clause-most : goal.most_from-from_here-requires-clause-most
most_from-from_here-requires-clause-most c =
    let inside = c.loop-done-test.true in
    let end = c.len-done-end.ensures in
    let long = c.len.ensures in
    rows-from c.args.table.now.gate.now c.args.table.now.positions.now c.loop-done.most _ _ (omega (arith, inside, end, long)) c.loop-done.invariant.0

pub loop-done-preserved : goal.loop-done-preserved
loop-done-preserved c =
    let inside = c.loop-done-test.true in
    let end = c.len-done-end.ensures in
    let long = c.len.ensures in
    rows-next c.args.table.now.gate.now c.args.table.now.positions.now c.loop-done.most _ c.loop-done.done c.most_from-from_here.result (omega (arith, inside, end, long)) (omega (arith, inside, end, long)) c.loop-done.invariant.0 c.most_from-from_here.ensures.most c.most_from-from_here.ensures.less

pub returns : goal.returns
returns c =
    let gate = c.args.table.now.gate.now in
    let positions = c.args.table.now.positions.now in
    let done = c.loop-done-test.false in
    let end = c.len-done-end.ensures in
    let until = c.loop-done.auto.done-end in
    let some : 1 ≤ length positions = subst (λ (ps : List (List ℕ)). 1 ≤ length ps) (sym c.requires.table.all) (some-positions gate.pins.now) in
    let first : length positions - c.loop-done.done ≡ 0 = omega (arith, done, end, until) in
    let last : slice_index_or c.loop-done.most 0 0 ≡ c.loop-done.from_here =
    subst (λ (i : ℕ). slice_index_or c.loop-done.most i 0 ≡ c.loop-done.from_here) first (c.loop-done.invariant.1 (omega (arith, done, end, some))) in
    subst (IsMostFrom gate.orders.now gate.kind gate.wire gate.pins.now (begin gate.pins.now)) last
    (most-begin gate positions c.loop-done.most _ (sym c.requires.table.all) first c.loop-done.invariant.0)
