-- What a state feeds to its hasher.
use Rattle.std.specs.Prelude.{◌≡◌, ℕ, Bool, true, List, [], ◌∷◌, refl}
use Rattle.std.proofs.Common.{ap}
use Rattle.std.specs.Bool.{Decides}
use Rattle.std.specs.Cmp.{booleans_Decides}
use Rattle.std.proofs.lemmas.Slice.Eq.{slice_eq-Decides}
use Rattle.hz_states.specs.Packing.{packed}
use Rattle.hz_states.specs.States.{same_state}

-- its bytes, by one write
abbrev pub writes_of : List Bool → List (List ℕ)
writes_of state = packed state ∷ []

-- the test of two states decides whether they are the same
pub same_state-Decides : (state other : List Bool) → Decides (same_state state other) (state ≡ other)
same_state-Decides state other = slice_eq-Decides booleans_Decides state other (same_state state other) refl

-- the same states are fed alike
pub same_writes : (state other : List Bool) → same_state state other ≡ true → writes_of state ≡ writes_of other
same_writes state other same = ap writes_of ((same_state-Decides state other).0 same)
