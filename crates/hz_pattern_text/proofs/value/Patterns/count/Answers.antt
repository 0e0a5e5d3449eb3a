use Rattle.std.proofs.Common.{sym}
use Rattle.hz_pattern_text.proofs.PatternBuildLaws.{length-patterns}
use Rattle.hz_pattern_text.proofs.value.Patterns.count.Goals as goal

pub returns : goal.returns
returns c =
    let inside = c.self.inside in
    rw (← c.self.view_is) (sym (length-patterns inside.count inside.inputs inside.bits.items))
