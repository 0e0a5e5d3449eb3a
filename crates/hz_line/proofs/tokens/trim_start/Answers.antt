use Rattle.std.proofs.Common.{◌<◌, ◌∙◌, length, ap, sym, arith}
use Rattle.std.proofs.lemmas.Grind.{common_steps}
use Rattle.hz_line.specs.Byte.{class_by}
use Rattle.hz_line.proofs.TokenLemmas.{PastBlanks-more}
use Rattle.hz_line.proofs.tokens.trim_start.Goals as goal

pub loop-rest-preserved : goal.loop-rest-preserved
loop-rest-preserved c =
    let rest = c.loop-rest.rest.now in
    let more : 0 < length rest = omega arith in
    let front = PastBlanks-more c.args.line.now rest more (sym c.class_of.ensures ∙ ap class_by c.in-Blank.is) c.loop-rest.invariant.front in
    grind (arith, common_steps, front)
