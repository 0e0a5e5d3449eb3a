-- The ternary extension of a gate function: the join of its values over all lists of bits that refine the ternary list.
use Rattle.std.specs.Prelude.{◌≡◌, Bool, true, false, List, [], ◌∷◌}
use Rattle.hz_core.specs.declared.tri.Tri.{Tri}
use Rattle.hz_core.specs.declared.tri.Tri.TheVariants.{Zero, One, Unknown}
use Rattle.hz_core.specs.declared.kind.Kind.{Kind}
use Rattle.hz_core.specs.Ternary.{tri_of, join_of, Refines, IsJoinOf}
use Rattle.hz_core.specs.Gate.{gate_value}

-- the set of the values that the gate takes on the lists of bits that refine the ternary list
abbrev pub IsValueOver : Kind → List Tri → Bool → Type 0
IsValueOver kind pins value =
    (bits : List Bool) × Refines bits pins × (gate_value kind bits ≡ value)

-- the value of the extension is the join of that set
abbrev pub IsExtension : Kind → List Tri → Tri → Type 0
IsExtension kind pins = IsJoinOf (IsValueOver kind pins)

-- the join of a function's values, with both bits tried at each X
abbrev pub join_over : (List Bool → Bool) → List Tri → Tri
join_over f [] = tri_of (f [])
join_over f (Zero ∷ values) = join_over (λ bits. f (false ∷ bits)) values
join_over f (One ∷ values) = join_over (λ bits. f (true ∷ bits)) values
join_over f (Unknown ∷ values) =
    join_of (join_over (λ bits. f (false ∷ bits)) values)
    (join_over (λ bits. f (true ∷ bits)) values)

-- the ternary extension, as a function
abbrev pub extension : Kind → List Tri → Tri
extension kind pins = join_over (gate_value kind) pins
