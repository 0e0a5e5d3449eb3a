-- Ternary values: 0, 1 and X, their refinements and their join.
use Rattle.std.specs.Prelude.{ℕ, Bool, true, false, Option, Some, None, List, [], ◌∷◌, IsTrue, count_by}
use Rattle.hz_core.specs.declared.tri.Tri.{Tri}
use Rattle.hz_core.specs.declared.tri.Tri.TheVariants.{Zero, One, Unknown}

-- the value of a known bit
abbrev pub tri_of : Bool → Tri
tri_of false = Zero
tri_of true = One

-- the bit of a value, if it is known
abbrev pub known_bit : Tri → Option Bool
known_bit Zero = Some false
known_bit One = Some true
known_bit Unknown = None

-- whether a value is X
abbrev pub is_unknown : Tri → Bool
is_unknown Zero = false
is_unknown One = false
is_unknown Unknown = true

-- how many values are X
abbrev pub unknown_count : List Tri → ℕ
unknown_count values = count_by is_unknown values

-- whether a bit refines a value: X admits both bits
abbrev pub admits : Tri → Bool → Bool
admits Zero false = true
admits Zero true = false
admits One false = false
admits One true = true
admits Unknown false = true
admits Unknown true = true

-- the least value above both: 0 and 1 lie below X
abbrev pub join_of : Tri → Tri → Tri
join_of Zero Zero = Zero
join_of Zero One = Unknown
join_of Zero Unknown = Unknown
join_of One Zero = Unknown
join_of One One = One
join_of One Unknown = Unknown
join_of Unknown Zero = Unknown
join_of Unknown One = Unknown
join_of Unknown Unknown = Unknown

-- whether a value lies below another or is equal to it: every bit that refines the first refines the second
abbrev pub is_below : Tri → Tri → Bool
is_below Zero Zero = true
is_below Zero One = false
is_below Zero Unknown = true
is_below One Zero = false
is_below One One = true
is_below One Unknown = true
is_below Unknown Zero = false
is_below Unknown One = false
is_below Unknown Unknown = true

-- two lists of values in which each value of the first lies below the value at its place or is equal to it
abbrev pub AllBelow : List Tri → List Tri → Type 0
AllBelow [] [] = Unit {0}
AllBelow [] (large ∷ larger) = ⊥
AllBelow (small ∷ smaller) [] = ⊥
AllBelow (small ∷ smaller) (large ∷ larger) =
    IsTrue (is_below small large) × AllBelow smaller larger

-- a list of bits refines a list of values if each bit refines the value at its place
abbrev pub Refines : List Bool → List Tri → Type 0
Refines [] [] = Unit {0}
Refines [] (value ∷ values) = ⊥
Refines (bit ∷ bits) [] = ⊥
Refines (bit ∷ bits) (value ∷ values) = IsTrue (admits value bit) × Refines bits values

-- the join of a nonempty set of bits: the bit if the set has one member, else X
abbrev pub IsJoinOf : (Bool → Type 0) → Tri → Type 0
IsJoinOf set Zero = set false × (set true → ⊥)
IsJoinOf set One = set true × (set false → ⊥)
IsJoinOf set Unknown = set false × set true
