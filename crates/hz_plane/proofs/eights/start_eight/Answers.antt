use Rattle.std.proofs.Common.{◌≡◌, ◌≤◌, ◌+◌, ◌*◌, ◌%◌, ◌∙◌, ℕ, ap, arith, inl, inr, Some, false, get_or}
use Rattle.std.proofs.lemmas.Nat.{mul-le}
use Rattle.hz_plane.proofs.BlockLoads.{gathered-listed, lists-none, same-listed}
use Rattle.hz_plane.proofs.eights.start_eight.Goals as goal

pub list_eight-requires-clause-none : goal.list_eight-requires-clause-none
list_eight-requires-clause-none c i lane inside same = lists-none c.args.listings.now lane i (c.requires.none lane same) inside

pub returns-clause-here : goal.returns-clause-here
returns-clause-here c lane same =
    let step = 2 * c.args.inputs in
    let off = c.args.at + (lane % 8) * step in
    let last : (lane % 8) * step ≤ 7 * step = mul-le (lane % 8) step 7 step (omega arith) (omega arith) in
    gathered-listed c.args.listings.now c.list_eight.new.listings lane off c.args.inputs c.args.bits.now c.list_eight.auto.listings c.requires.inputs (omega (arith, c.requires.inside, last)) (c.requires.none lane same)
    (λ i few. let place : c.args.at + i + (lane % 8) * step ≡ off + i = omega arith in c.list_eight.ensures.here i lane few same ∙ ap (λ (n : ℕ). Some (get_or c.args.bits.now n false)) place)
    (λ i past. c.list_eight.ensures.others i lane (omega (arith, same, c.requires.eight)) (inr past))

pub returns-clause-others : goal.returns-clause-others
returns-clause-others c other below differ =
    same-listed c.args.listings.now c.list_eight.new.listings other c.list_eight.auto.listings (λ i. c.list_eight.ensures.others i other below (inl differ))
