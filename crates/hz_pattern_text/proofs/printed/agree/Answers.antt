-- One byte more.
use Rattle.std.proofs.Common.{◌∙◌, sym, arith}
use Rattle.std.proofs.lemmas.Bool.{and_parts}
use Rattle.hz_pattern_text.proofs.PatternModelLaws.{agrees-more}
use Rattle.hz_pattern_text.proofs.printed.agree.Goals as goal

pub loop-i-preserved : goal.loop-i-preserved
loop-i-preserved c = λ none.
    let parts = and_parts _ _ (sym c.farther-most.ensures ∙ none) in
    agrees-more c.loop-i.i c.args.bytes.now c.args.model.now _ _ (omega (arith, c.loop-i-test.true)) (omega (arith, c.loop-i-test.true, c.requires.fits))
    (c.loop-i.invariant parts.0) parts.1
