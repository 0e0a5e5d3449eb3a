-- Eight lanes at once: their bits are one byte.
use Rattle.std.specs.Prelude.{◌≡◌, ℕ, ◌+◌, ◌*◌, ◌<◌, Bool, false, List, slice_index, nat_eq}
use Rattle.std.specs.List.{slice_index_or}
use Rattle.std.specs.Int.{bit_at}

-- the bit of one of eight lanes
abbrev pub byte_has : ℕ → ℕ → Bool
byte_has byte lane = nat_eq (bit_at byte lane) 1

-- Bytes have the bits of eight lanes for inputs one after the other. A step is from a lane to the next one.
abbrev pub AreGathered : List Bool → ℕ → ℕ → ℕ → List ℕ → Type 0
AreGathered bits at step count bytes =
    (i lane : ℕ) → i < count → lane < 8 →
    byte_has (slice_index bytes i) lane ≡ slice_index_or bits (at + i + lane * step) false
