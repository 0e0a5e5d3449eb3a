-- What the ternary extension says of the lists of bits that refine the pins.
use Rattle.std.proofs.Common.{◌≡◌, Bool, true, false, List, [], ◌∷◌, map, IsTrue, refl, sym}
use Rattle.hz_core.specs.declared.kind.Kind.{Kind}
use Rattle.hz_core.specs.declared.tri.Tri.{Tri}
use Rattle.hz_core.specs.Ternary.{tri_of, admits, is_below, AllBelow, Refines}
use Rattle.hz_core.specs.Gate.{gate_value}
use Rattle.hz_core.specs.Extension.{join_over, extension, IsExtension}
use Rattle.hz_core.proofs.Refinements.{known-admits, Refines-AllBelow}
use Rattle.hz_core.proofs.Joins.{IsTaken, admits-IsJoinOf, is_below-IsJoinOf, IsJoinOf-join_over}

-- the extension is the join of the gate's values over all refining lists
pub IsExtension-extension : (kind : Kind) (pins : List Tri) → IsExtension kind pins (extension kind pins)
IsExtension-extension kind pins = IsJoinOf-join_over (gate_value kind) pins

-- the extension admits the gate's value on each refining list
pub admits-extension : (kind : Kind) (pins : List Tri) (bits : List Bool) → Refines bits pins → IsTrue (admits (extension kind pins) (gate_value kind bits))
admits-extension kind pins bits refines =
    admits-IsJoinOf (IsTaken (gate_value kind) pins) (extension kind pins) (gate_value kind bits)
    (IsJoinOf-join_over (gate_value kind) pins)
    (bits, refines, refl)

-- the extension is monotone
pub is_below-extension : (kind : Kind) (small large : List Tri) → AllBelow small large → IsTrue (is_below (extension kind small) (extension kind large))
is_below-extension kind small large below =
    is_below-IsJoinOf (IsTaken (gate_value kind) small) (IsTaken (gate_value kind) large) (extension kind small) (extension kind large)
    (λ b h. (h.0, Refines-AllBelow h.0 small large below h.1, h.2))
    (IsJoinOf-join_over (gate_value kind) small)
    (IsJoinOf-join_over (gate_value kind) large)

-- where all pins are known, a function's join is its value
pub join_over-map : (f : List Bool → Bool) (bits : List Bool) → join_over f (map tri_of bits) ≡ tri_of (f bits)
join_over-map f [] = refl
join_over-map f (false ∷ bits) = join_over-map (λ rest. f (false ∷ rest)) bits
join_over-map f (true ∷ bits) = join_over-map (λ rest. f (true ∷ rest)) bits

-- where all pins are known, the extension is the gate function
pub extension-map : (kind : Kind) (bits : List Bool) → extension kind (map tri_of bits) ≡ tri_of (gate_value kind bits)
extension-map kind bits = join_over-map (gate_value kind) bits

-- where the extension is a known bit, the gate has this value on each refining list
pub gate_value-known : (kind : Kind) (pins : List Tri) (bits : List Bool) (known : Bool) → extension kind pins ≡ tri_of known → Refines bits pins → gate_value kind bits ≡ known
gate_value-known kind pins bits known e refines =
    known-admits known (gate_value kind bits) (rw (sym e) (admits-extension kind pins bits refines))

-- the same, for the search
pub ruleset joined = (IsExtension-extension)
