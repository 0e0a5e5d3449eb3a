-- Letters as bytes.
use Rattle.std.proofs.Common.{◌≡◌, ◌∙◌, refl, ap, ℕ, [], ◌∷◌}
use Rattle.hz_core.specs.declared.tri.Tri.{Tri}
use Rattle.hz_core.specs.declared.tri.Tri.TheVariants.{Zero, One, Unknown}
use Rattle.hz_core.specs.Letters.{tri_letter}
use Rattle.hz_batch.specs.Letters.{letter_byte, letter_value}

letter-as-byte : (value : Tri) → tri_letter value ≡ letter_byte value ∷ []
letter-as-byte Zero = refl
letter-as-byte One = refl
letter-as-byte Unknown = refl

-- a byte that is the letter of the value that it says
pub letter-of-byte : (byte : ℕ) → letter_byte (letter_value byte) ≡ byte → tri_letter (letter_value byte) ≡ byte ∷ []
letter-of-byte byte whole = letter-as-byte (letter_value byte) ∙ ap (λ (b : ℕ). b ∷ []) whole
