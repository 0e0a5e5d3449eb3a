-- Bits in bytes, eight to a byte, the first the lowest.
use Rattle.std.specs.Prelude.{ℕ, ◌+◌, ◌*◌, ◌/◌, ◌%◌, Bool, List, [], ◌∷◌, drop, if◌then◌else◌, length, map, nat_eq, slice_index_or, take}
use Rattle.std.specs.Int.{bit_at}
use Rattle.std.specs.List.{range_with_len}

-- a bit as a digit
abbrev pub digit : Bool → ℕ
digit bit = if bit then 1 else 0

-- the number whose binary digits are these bits, the first the lowest
abbrev pub byte_of : List Bool → ℕ
byte_of [] = 0
byte_of (bit ∷ bits) = digit bit + 2 * byte_of bits

-- the byte with a number: up to eight bits, from eight times this number on
abbrev pub byte_at : List Bool → ℕ → ℕ
byte_at bits number = byte_of (take 8 (drop (8 * number) bits))

-- the bytes of a list of bits
abbrev pub packed : List Bool → List ℕ
packed bits = map (byte_at bits) (range_with_len 0 ((length bits + 7) / 8))

-- the bit of bytes at a place
abbrev pub bit_of : List ℕ → ℕ → Bool
bit_of bytes place = nat_eq (bit_at (slice_index_or bytes (place / 8) 0) (place % 8)) 1

-- so many bits of these bytes
abbrev pub unpacked : ℕ → List ℕ → List Bool
unpacked count bytes = map (bit_of bytes) (range_with_len 0 count)
