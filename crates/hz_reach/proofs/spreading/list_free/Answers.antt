use Rattle.std.proofs.Common.{false, arith, not, ◌&&◌, eqb, ltb}
use Rattle.hz_reach.proofs.Words.{length-map, free_pins}
use Rattle.std.proofs.lemmas.List.{ext_get_or}
use Rattle.hz_reach.proofs.spreading.list_free.Goals as goal

pub returns : goal.returns
returns c =
    let lengths = length-map c.args.ranks.now (λ rank. not (eqb rank 0) && ltb rank c.args.own) in
    ext_get_or false c.loop-pin.free (free_pins c.args.own c.args.ranks.now)
    (omega (arith, lengths, c.requires, c.loop-pin.auto.free))
    (λ k inside. c.loop-pin.invariant k (omega (arith, inside, c.requires, c.loop-pin.auto.free, c.loop-pin-test.false)))
