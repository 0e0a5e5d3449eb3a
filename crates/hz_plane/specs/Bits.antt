-- Bit planes: 512 lanes in eight words of 64 bits.
use Rattle.std.specs.Prelude.{◌≡◌, ℕ, ◌<◌, ◌/◌, ◌%◌, ◌^◌, Bool, true, false, List, length, slice_index, nat_eq}
use Rattle.std.specs.Int.{bit_at}
use Rattle.hz_core.specs.declared.tri.Tri.{Tri}
use Rattle.hz_core.specs.Ternary.{admits}
use Rattle.hz_plane.specs.declared.pair.Pair.{Pair}

-- eight words of 64 bits
pub record IsPlane (words : List ℕ) : Type 0 where
  pub long : length words ≡ 8
  pub fit : (k : ℕ) → slice_index words k < 2 ^ 64

pub record ArePlanes (pair : Pair) : Type 0 where
  pub zero_is : IsPlane pair.zero
  pub one_is : IsPlane pair.one

-- the bit of a lane
abbrev pub lane_bit : List ℕ → ℕ → ℕ
lane_bit words lane = bit_at (slice_index words (lane / 64)) (lane % 64)

-- a bit as a number
abbrev pub bit_number : Bool → ℕ
bit_number false = 0
bit_number true = 1

-- A lane has a value: one plane has the lanes that can be 0, the other those that can be 1.
pub record HasValue (pair : Pair) (lane : ℕ) (value : Tri) : Type 0 where
  pub can_be_zero : lane_bit pair.zero lane ≡ bit_number (admits value false)
  pub can_be_one : lane_bit pair.one lane ≡ bit_number (admits value true)

-- a lane is in a set of lanes
abbrev pub has_lane : List ℕ → ℕ → Bool
has_lane set lane = nat_eq (lane_bit set lane) 1
