-- One bit is cleared in its word.
use Rattle.std.proofs.Common.{◌%◌, ◌<◌, arith, w64}
use Rattle.std.proofs.lemmas.Nat.Bits.{bit_at_clear_same, bit_at_clear_other}
use Rattle.hz_lists.proofs.BitLemmas.{turned}
use Rattle.hz_lists.proofs.bits.clear_bit.Goals as goal

pub returns-clause-turned : goal.returns-clause-turned
returns-clause-turned c =
    let index : c.args.place % 64 < 64 = omega arith in
    turned c.args.words.now c.args.place _ 0 c.requires (bit_at_clear_same w64 _ (c.args.place % 64) index)
    (λ i below differs. bit_at_clear_other w64 _ (c.args.place % 64) index i below differs)
