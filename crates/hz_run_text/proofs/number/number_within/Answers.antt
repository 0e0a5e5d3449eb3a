use Rattle.std.proofs.Common.{◌≡◌, ◌+◌, ◌*◌, ◌-◌, ◌∙◌, take, get_or, ap, arith}
use Rattle.std.proofs.lemmas.List.{take_more}
use Rattle.hz_text.specs.Decimal.{number_by}
use Rattle.hz_text.proofs.DecimalLemmas.{number_by-push, number_by-take}
use Rattle.hz_run_text.proofs.number.number_within.Goals as goal

pub returns-then-number-most : goal.returns-then-number-most
returns-then-number-most c =
    let digits = c.args.digits.now in
    let i = c.loop-digit.digit-index in
    let more : number_by (take (i + 1) digits) ≡ 10 * number_by (take i digits) + (get_or digits i 0 - 48) =
    ap number_by (take_more digits i 0 c.loop-digit-test.true) ∙ number_by-push (take i digits) (get_or digits i 0) in
    omega (arith, more, c.loop-digit.invariant.number, c.if-number-most.true, number_by-take digits (i + 1))
