use Rattle.std.proofs.Common.{◌≡◌, ◌/◌, refl, arith}
use Rattle.std.specs.Int.{bit_at}
use Rattle.hz_batch.proofs.keys.pair_of.Goals as goal

pub returns : goal.returns
returns c =
    let key = c.args.key in
    let third : bit_at (key / 8) 0 ≡ bit_at key 3 = omega arith in
    let second : bit_at (key / 4) 0 ≡ bit_at key 2 = omega arith in
    let first : bit_at (key / 2) 0 ≡ bit_at key 1 = omega arith in
    rw (c.letter_by.ensures, c.letter_by-2.ensures, third, second, first) refl
