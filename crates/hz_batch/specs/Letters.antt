-- Letters of values as bytes.
use Rattle.std.specs.Prelude.{ℕ, nat_eq, if◌then◌else◌}
use Rattle.hz_core.specs.declared.tri.Tri.{Tri}
use Rattle.hz_core.specs.declared.tri.Tri.TheVariants.{Zero, One, Unknown}

-- the letter of a value as a byte
abbrev pub letter_byte : Tri → ℕ
letter_byte Zero = 48
letter_byte One = 49
letter_byte Unknown = 88

-- the value that a letter says
abbrev pub letter_value : ℕ → Tri
letter_value letter = if nat_eq letter 48 then Zero else (if nat_eq letter 49 then One else Unknown)
