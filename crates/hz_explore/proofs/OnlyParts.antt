-- The only part of a script.
use Rattle.std.proofs.Common.{◌≡◌, ap, List, [], ◌∷◌, length, Some, slice_get, arith}
use Rattle.hz_script.specs.ScriptValue.{ScriptOf}

same-some : (one other : ScriptOf) → Some one ≡ Some other → one ≡ other
same-some one other e = cc

pub only-part : (parts : List ScriptOf) (part : ScriptOf) → length parts ≡ 1 → slice_get parts 0 ≡ Some part → parts ≡ part ∷ []
only-part [] part one there = absurd (omega (arith, one))
only-part (first ∷ []) part one there = ap (λ (only : ScriptOf). only ∷ []) (same-some first part there)
only-part (first ∷ second ∷ parts) part one there = absurd (omega (arith, one))
