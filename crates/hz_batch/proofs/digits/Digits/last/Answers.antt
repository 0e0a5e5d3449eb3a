use Rattle.std.proofs.Common.{◌≤◌, ◌<◌, ◌+◌, ◌%◌, ◌^◌, ◌∙◌, ap, ℕ, arith}
use Rattle.hz_batch.proofs.DigitLemmas.{last-digit}
use Rattle.hz_batch.proofs.digits.Digits.last.Goals as goal

pub returns : goal.returns
returns c many few =
    let fields = c.self.inside in
    let at_least : 10 ≤ fields.number = rw (← c.self.view_is) at many in
    let at_most : fields.number + 1 < 2 ^ 32 = rw (← c.self.view_is) at few in
    c.index.ensures ∙ last-digit fields.number fields.begin fields.bytes.items at_least (omega (arith, at_most)) c.self.invariant.few c.self.invariant.room c.self.invariant.digits c.index.result.now
    ∙ ap (λ (n : ℕ). 48 + n % 10) c.self.view_is
