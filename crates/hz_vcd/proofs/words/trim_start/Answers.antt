-- One white byte less.
use Rattle.std.proofs.Common.{◌∙◌, ◌<◌, length, sym, arith}
use Rattle.std.proofs.lemmas.Grind.{common_steps}
use Rattle.hz_vcd.proofs.FirstWords.{words-drop}
use Rattle.hz_vcd.proofs.words.trim_start.Goals as goal

pub loop-rest-preserved : goal.loop-rest-preserved
loop-rest-preserved c =
    let rest = c.loop-rest.rest.now in
    let more : 0 < length rest = omega arith in
    let same = c.loop-rest.invariant.same ∙ sym (words-drop rest more (sym c.is_white.ensures ∙ c.if-not-is_white.false)) in
    grind (arith, common_steps, same)
