-- One bit is set in its word.
use Rattle.std.proofs.Common.{◌%◌, ◌<◌, arith, w64}
use Rattle.std.proofs.lemmas.Nat.Bits.{bit_at_set_same, bit_at_set_other}
use Rattle.hz_lists.proofs.BitLemmas.{turned}
use Rattle.hz_lists.proofs.bits.set_bit.Goals as goal

pub returns : goal.returns
returns c =
    let index : c.args.place % 64 < 64 = omega arith in
    turned c.args.words.now c.args.place _ 1 c.requires (bit_at_set_same w64 _ (c.args.place % 64) index)
    (λ i below differs. bit_at_set_other w64 _ (c.args.place % 64) index i differs)
