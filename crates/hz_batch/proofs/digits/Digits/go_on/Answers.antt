-- The last digit alone changes.
use Rattle.std.proofs.Common.{◌+◌, ◌≤◌, ◌<◌, ◌^◌, ◌∙◌, ap, ℕ, drop, set, arith}
use Rattle.std.proofs.lemmas.List.{length-set}
use Rattle.hz_batch.proofs.DigitLemmas.{next-digits}
use Rattle.hz_batch.proofs.digits.Digits.go_on.Goals as goal

pub invariant_of-self : goal.invariant_of-self
invariant_of-self c =
    let fields = c.self.inside in
    let many : 10 ≤ fields.number = rw (← c.self.view_is) at c.requires.many in
    let few : fields.number + 1 < 2 ^ 32 = rw (← c.self.view_is) at c.requires.few in
    let last = c.last-next.ensures c.requires.many c.requires.few in
    record {
      room = length-set fields.bytes.items 9 (c.last-next.result + 1) ∙ c.self.invariant.room;
      few = c.self.invariant.few;
      digits = ap (λ (byte : ℕ). drop fields.begin (set fields.bytes.items 9 (byte + 1))) (rw (← c.self.view_is) at last)
          ∙ next-digits fields.number fields.begin fields.bytes.items many (omega (arith, few)) c.self.invariant.few c.self.invariant.room c.self.invariant.digits (rw (← c.self.view_is) at c.requires.other);
    }
