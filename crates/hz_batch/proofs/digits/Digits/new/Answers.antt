use Rattle.std.proofs.Common.{◌≡◌, ◌∙◌, sym, ap, arith, rules, List, ℕ, length, replicate, drop}
use Rattle.std.proofs.lemmas.Fmt.{decimal_digit}
use Rattle.hz_batch.proofs.digits.Digits.new.Goals as goal

pub invariant_of-result : goal.invariant_of-result
invariant_of-result c =
    let zeros : c.in_ok-bytes.bytes.items ≡ replicate 10 48 = c.in_ok-bytes.ensures.items_if_clones_equal (λ y clone. search rules) in
    record { room = ap (length {A = ℕ}) zeros; few = omega arith; digits = ap (λ (bytes : List ℕ). drop 9 bytes) zeros ∙ sym (decimal_digit 0 (omega arith)) }
