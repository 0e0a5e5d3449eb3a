use Rattle.std.proofs.Common.{◌≡◌, ◌∙◌, ap, arith, false}
use Rattle.hz_line.specs.Token.{begins_in_punctuation, has_punctuation_first}
use Rattle.hz_line.proofs.TokenLemmas.{begins_in_punctuation-no_punctuation, has_punctuation_first-no_punctuation, PastBlanks-so, punctuation_by}
use Rattle.hz_line.proofs.tokens.first_punctuation.Goals as goal

pub returns-in_default-class_of : goal.returns-in_default-class_of
returns-in_default-class_of c =
    let rest = c.trim_start.result.now in
    let no_punctuation : begins_in_punctuation rest ≡ false = begins_in_punctuation-no_punctuation rest (omega arith) (λ punctuation e. c.in_default-class_of.not-Punct punctuation (punctuation_by c.class_of.result punctuation (c.class_of.ensures ∙ e))) in
    record {
      first = PastBlanks-so _ c.args.line.now rest c.trim_start.ensures.front record { no_blank = c.trim_start.ensures.all; no_punctuation = no_punctuation };
      tokens = ap has_punctuation_first c.trim_start.ensures.same ∙ has_punctuation_first-no_punctuation rest c.trim_start.ensures.all no_punctuation;
    }
