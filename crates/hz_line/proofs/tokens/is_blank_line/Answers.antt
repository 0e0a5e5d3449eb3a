use Rattle.std.proofs.Common.{◌∙◌, ap, arith, sym}
use Rattle.hz_line.specs.Token.{has_no_token}
use Rattle.hz_line.proofs.TokenLemmas.{has_no_token-no_hash, hash_by}
use Rattle.hz_line.proofs.tokens.is_blank_line.Goals as goal

pub returns-in_default-class_of : goal.returns-in_default-class_of
returns-in_default-class_of c =
    let rest = c.trim_start.result.now in
    let more = has_no_token-no_hash rest (omega arith) c.trim_start.ensures.all (λ e. c.in_default-class_of.not-Hash (hash_by c.class_of.result (c.class_of.ensures ∙ e))) in
    sym (ap has_no_token c.trim_start.ensures.same ∙ more)
