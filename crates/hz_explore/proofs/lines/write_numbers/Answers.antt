-- One number more, or none.
use Rattle.std.proofs.Common.{arith}
use Rattle.hz_write.proofs.Writers.{writes_then}
use Rattle.hz_explore.proofs.NumberLemmas.{numbers-more}
use Rattle.hz_explore.proofs.lines.write_numbers.Goals as goal

pub loop-place-preserved : goal.loop-place-preserved
loop-place-preserved g c = writes_then c.loop-place.invariant c.write_number.ensures (numbers-more c.args.assumptions.now c.loop-place.place _ c.args.used.now (omega (arith, c.loop-place-test.true)))
