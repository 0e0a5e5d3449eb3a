-- What lists of values and of bits tell that variables rest at. Words about the inside of hz_desk.
use Rattle.std.specs.Prelude.{ℕ, Bool, false, true, Option, Some, None, List, length, map}
use Rattle.std.specs.List.{range_with_len}
use Rattle.hz_core.specs.declared.tri.Tri.{Tri}
use Rattle.hz_core.specs.declared.tri.Tri.TheVariants.{Zero, One, Unknown}
use Rattle.hz_core.specs.Ternary.{tri_of}
use Rattle.hz_net.specs.Network.{bit_at, value_at}
use Rattle.hz_desk.specs.declared.finding.Rest.{Rest}

-- what is told by a value that may be X, and by whether there is a number of changes
abbrev pub rest_told : Tri → Bool → Option Rest
rest_told Zero counted = Some (record { value = false; counted = counted })
rest_told One counted = Some (record { value = true; counted = counted })
rest_told Unknown counted = None

-- the value that tells this
abbrev pub value_told : Option Rest → Tri
value_told None = Unknown
value_told (Some rest) = tri_of rest.value

-- the bit that tells this
abbrev pub counted_told : Option Rest → Bool
counted_told None = false
counted_told (Some rest) = rest.counted

-- what variable i is told
abbrev pub rest_at : List Tri → List Bool → ℕ → Option Rest
rest_at values counted i = rest_told (value_at values i) (bit_at counted i)

-- what all variables are told
abbrev pub rests_of : List Tri → List Bool → List (Option Rest)
rests_of values counted = map (rest_at values counted) (range_with_len 0 (length values))
