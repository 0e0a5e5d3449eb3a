use Rattle.std.proofs.Common.{arith}
use Rattle.hz_pattern_text.proofs.PatternBuildLaws.{length-patterns}
use Rattle.hz_pattern_text.proofs.value.Patterns.to.Goals as goal

pub pattern_at-requires-clause-number : goal.pattern_at-requires-clause-number
pattern_at-requires-clause-number c =
    let inside = c.self.inside in
    let within = rw (← c.self.view_is) at c.requires in
    omega (arith, within, length-patterns inside.count inside.inputs inside.bits.items)
