-- Ternary values in texts.
use Rattle.std.specs.Prelude.{ℕ, List, codes}
use Rattle.hz_core.specs.declared.tri.Tri.{Tri}
use Rattle.hz_core.specs.declared.tri.Tri.TheVariants.{Zero, One, Unknown}

-- the letter of a ternary value
abbrev pub tri_letter : Tri → List ℕ
tri_letter Zero = codes "0"
tri_letter One = codes "1"
tri_letter Unknown = codes "X"
