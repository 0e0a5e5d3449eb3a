-- Bits that are compared.
use Rattle.std.proofs.Common.{◌≡◌, Bool, true, false, not, refl}
use Rattle.std.specs.Bool.{beq}
use Rattle.std.proofs.lemmas.Bool.{false≢true}

pub beq-same : (a b : Bool) → beq a b ≡ true → a ≡ b
beq-same true true e = refl
beq-same true false e = absurd (false≢true e)
beq-same false true e = absurd (false≢true e)
beq-same false false e = refl

pub beq-refl : (a : Bool) → beq a a ≡ true
beq-refl true = refl
beq-refl false = refl

-- a bit that differs is the complement
pub other-bit : (a b : Bool) → (a ≡ b → ⊥) → not a ≡ b
other-bit false false differ = absurd (differ refl)
other-bit false true differ = refl
other-bit true false differ = refl
other-bit true true differ = absurd (differ refl)
