-- The limit of run texts.
use Rattle.std.specs.Prelude.{ℕ}

-- the most steps of a run text, and the most variables that its steps name
abbrev pub most_steps : ℕ
most_steps = 2000000
