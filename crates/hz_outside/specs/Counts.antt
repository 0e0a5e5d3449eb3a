-- When a count that never falls has risen.
use Rattle.std.specs.Prelude.{ℕ, ◌+◌, ◌-◌, ◌^◌, ◌<◌, ◌≤◌, ◌⊎◌, min, max}

-- the last value of a count of 64 bits
abbrev pub last_count : ℕ
last_count = 2 ^ 64 - 1

-- the count rose, or stands at its last value
abbrev pub Rose : ℕ → ℕ → Type 0
Rose before after = (before < after) ⊎ (last_count ≤ after)

-- a count raised by one, which stays from its last value on
abbrev pub count_after : ℕ → ℕ
count_after count = max count (min (count + 1) last_count)
