-- The limit of an exploration.
use Rattle.std.specs.Prelude.{ℕ}

-- the most states that are found
abbrev pub most_states : ℕ
most_states = 65536
