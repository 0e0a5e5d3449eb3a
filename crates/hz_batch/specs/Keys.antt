-- Both values of a variable in a lane, as a number of four bits.
use Rattle.std.specs.Prelude.{◌≡◌, ℕ, ◌+◌, ◌*◌, ◌/◌, ◌%◌, ◌^◌, ◌<◌, List, [], length, nat_eq}
use Rattle.std.specs.Int.{bit_at}
use Rattle.std.specs.List.{slice_index_or}
use Rattle.hz_core.specs.declared.tri.Tri.{Tri}
use Rattle.hz_core.specs.declared.tri.Tri.TheVariants.{Zero}
use Rattle.hz_plane.specs.Bits.{lane_bit}
use Rattle.hz_plane.specs.declared.values.LaneValues.{LaneValues}
use Rattle.hz_plane.specs.View.{value_by}
use Rattle.hz_batch.specs.Columns.{no_values}

-- the value that two bits say: whether it can be 0, and can be 1
abbrev pub value_of_bits : ℕ → ℕ → Tri
value_of_bits can_be_zero can_be_one = value_by (nat_eq can_be_zero 1) (nat_eq can_be_one 1)

-- both values that a key says
abbrev pub pair_by : ℕ → Tri × Tri
pair_by key = (
  value_of_bits (bit_at key 3) (bit_at key 2),
  value_of_bits (bit_at key 1) (bit_at key 0),
)

-- the values that each key says
pub record IsTable (table : List (Tri × Tri)) : Type 0 where
  pub long : length table ≡ 16
  pub rows : (key : ℕ) → key < 16 → slice_index_or table key (Zero, Zero) ≡ pair_by key

-- every fourth bit of four words, side by side in one word
abbrev pub AreJoined : (a b c d word : ℕ) → Type 0
AreJoined a b c d word =
    (at : ℕ) → at < 64 → at % 4 ≡ 0 →
    (bit_at word (at + 3) ≡ bit_at a at)
    × (bit_at word (at + 2) ≡ bit_at b at)
    × (bit_at word (at + 1) ≡ bit_at c at)
    × (bit_at word at ≡ bit_at d at)

-- where the key of a lane begins in its word
abbrev pub key_place : ℕ → ℕ
key_place lane = lane % 64 / 4 * 4

-- the key of a lane in words says both values of a variable there
abbrev pub SaysBoth : (first second : LaneValues) → List ℕ → ℕ → Type 0
SaysBoth first second words lane =
    let word = slice_index_or words (lane / 64) 0 in
    (bit_at word (key_place lane + 3) ≡ lane_bit first.zero lane)
    × (bit_at word (key_place lane + 2) ≡ lane_bit first.one lane)
    × (bit_at word (key_place lane + 1) ≡ lane_bit second.zero lane)
    × (bit_at word (key_place lane) ≡ lane_bit second.one lane)

-- the keys of every fourth lane, from one on
abbrev pub AreKeysAt : (first second : LaneValues) → ℕ → List ℕ → Type 0
AreKeysAt first second begin words =
    (lane : ℕ) → lane < 512 → lane % 4 ≡ begin → SaysBoth first second words lane

-- the keys of a variable in all lanes
abbrev pub AreKeys : (first second : LaneValues) → List (List ℕ) → Type 0
AreKeys first second keys =
    (lane : ℕ) → lane < 512 → SaysBoth first second (slice_index_or keys (lane % 4) []) lane

-- the key of a lane
abbrev pub key_in : List (List ℕ) → ℕ → ℕ
key_in keys lane =
    slice_index_or (slice_index_or keys (lane % 4) []) (lane / 64) 0 / 2 ^ key_place lane % 16

-- the keys of variables
abbrev pub HaveKeys : (firsts seconds : List LaneValues) → List (List (List ℕ)) → Type 0
HaveKeys firsts seconds keys =
    (place : ℕ) → place < length firsts →
    AreKeys (slice_index_or firsts place no_values) (slice_index_or seconds place no_values)
    (slice_index_or keys place [])
