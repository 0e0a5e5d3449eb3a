use Rattle.std.proofs.Common.{arith}
use Rattle.hz_pattern_text.proofs.PatternBuildLaws.{length-patterns}
use Rattle.hz_pattern_text.proofs.value.Patterns.bits.Goals as goal

pub bits_between-requires-clause-count : goal.bits_between-requires-clause-count
bits_between-requires-clause-count c =
    let inside = c.self.inside in
    let within = rw (← c.self.view_is) at c.requires in
    omega (arith, within, length-patterns inside.count inside.inputs inside.bits.items)
