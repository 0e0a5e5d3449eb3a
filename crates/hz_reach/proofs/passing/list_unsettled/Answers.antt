use Rattle.std.proofs.Common.{false, arith, map}
use Rattle.hz_reach.proofs.Words.{length-map, is_unknown}
use Rattle.std.proofs.lemmas.List.{ext_get_or}
use Rattle.hz_reach.proofs.passing.list_unsettled.Goals as goal

pub returns : goal.returns
returns c =
    let lengths = length-map c.args.values.now is_unknown in
    ext_get_or false c.loop-pin.free (map is_unknown c.args.values.now)
    (omega (arith, lengths, c.requires, c.loop-pin.auto.free))
    (λ k inside. c.loop-pin.invariant k (omega (arith, inside, c.requires, c.loop-pin.auto.free, c.loop-pin-test.false)))
