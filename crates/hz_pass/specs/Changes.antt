-- How many variables a pass changes.
use Rattle.std.specs.Prelude.{ℕ, ◌+◌, Bool, not, ◌&&◌, List, [], ◌∷◌, if◌then◌else◌}
use Rattle.hz_core.specs.declared.tri.Tri.{Tri}
use Rattle.hz_core.specs.Ternary.{is_below}

-- two values differ: they do not lie below each other
abbrev pub is_change : Tri → Tri → Bool
is_change value other = not (is_below value other && is_below other value)

-- the number of variables whose values in two states differ
abbrev pub differing_count : List Tri → List Tri → ℕ
differing_count [] others = 0
differing_count (value ∷ values) [] = 0
differing_count (value ∷ values) (other ∷ others) =
    (if is_change value other then 1 else 0) + differing_count values others
