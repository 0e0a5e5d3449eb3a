-- How the pins of a gate give it a value: all of them by one bit, or any one of them by a change.
use Rattle.std.specs.Prelude.{◌≡◌, ℕ, ◌<◌, Bool, false, not, Option, Some, None, List, length, replicate, IsTrue}
use Rattle.std.specs.List.{slice_index_or, slice_set}
use Rattle.hz_core.specs.declared.kind.Kind.{Kind}
use Rattle.hz_core.specs.Gate.{takes, gate_value}

-- every list on which the gate has this value has the bit at each pin
abbrev pub HasOneBit : Kind → Bool → Bool → Type 0
HasOneBit kind value bit =
    (list : List Bool) → gate_value kind list ≡ value → list ≡ replicate (length list) bit

-- if the gate has the other value, each pin alone gives it this one
abbrev pub IsSwitchedByAnyPin : Kind → Bool → Type 0
IsSwitchedByAnyPin kind value =
    (list : List Bool) → IsTrue (takes kind (length list)) → gate_value kind list ≡ not value →
    (pin : ℕ) → pin < length list →
    gate_value kind (slice_set list pin (not (slice_index_or list pin false))) ≡ value

-- one of the two, as the answer says
abbrev pub HasBitOrSwitch : Kind → Bool → Option Bool → Type 0
HasBitOrSwitch kind value (Some bit) = HasOneBit kind value bit
HasBitOrSwitch kind value None = IsSwitchedByAnyPin kind value
