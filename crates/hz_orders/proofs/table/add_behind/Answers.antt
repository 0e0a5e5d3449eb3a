-- One list more, and all.
use Rattle.std.proofs.Common.{◌≡◌, ◌∙◌, ◌+◌, ℕ, List, [], ◌∷◌, ap, arith, slice_index_or}
use Rattle.hz_orders.proofs.Rows.{more-behind, all-behind}
use Rattle.hz_orders.proofs.table.add_behind.Goals as goal

pub loop-place-preserved : goal.loop-place-preserved
loop-place-preserved c =
    let row : c.as_slice.result.now ≡ c.args.times ∷ slice_index_or c.args.tails.now c.loop-place.place [] =
    c.as_slice.ensures.value ∙ (c.in_ok-row.ensures ∙ ap (λ (tail : List ℕ). c.args.times ∷ tail) c.position.ensures) in
    let inside = c.loop-place-test.true in
    let end = c.len-place-end.ensures in
    more-behind c.args.times c.loop-place.place (c.loop-place.place + 1) c.args.tails.now _ c.loop-place.positions c.push.new.self c.as_slice.result.now (omega arith) (omega (arith, inside, end)) c.loop-place.invariant c.in_ok-push.ensures.ok row

pub returns : goal.returns
returns c =
    let done = c.loop-place-test.false in
    let end = c.len-place-end.ensures in
    all-behind c.args.times c.loop-place.place c.args.tails.now _ c.loop-place.positions (omega (arith, done, end)) c.loop-place.invariant
