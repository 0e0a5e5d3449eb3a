-- The bits of patterns stand one after the other.
use Rattle.std.proofs.Common.{◌≡◌, ◌+◌, ◌-◌, ◌*◌, sym, arith}
use Rattle.std.proofs.Math.Nat.{add-mul}
use Rattle.std.proofs.lemmas.Nat.{mul-le}
use Rattle.hz_pattern_text.proofs.PatternBuildLaws.{bits-between}
use Rattle.hz_pattern_text.proofs.value.bits_between.Goals as goal

pub slice_bounds-result-end-2 : goal.slice_bounds-result-end-2
slice_bounds-result-end-2 c =
    let row = 2 * c.args.inputs in
    omega (arith, c.requires.whole, mul-le (c.args.first + c.args.count) row c.args.all row c.requires.count (omega arith), add-mul c.args.first c.args.count row)

pub returns : goal.returns
returns c =
    let inputs = c.args.inputs in
    let start = c.args.first * (2 * inputs) in
    let size = c.args.count * (2 * inputs) in
    let same : start + size - start ≡ size = omega arith in
    rw same (sym (bits-between c.args.first c.args.count c.args.all inputs c.args.bits.now c.requires.count c.requires.whole))
