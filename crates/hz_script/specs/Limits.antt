-- The limit of scripts.
use Rattle.std.specs.Prelude.{ℕ}

-- the most changes of a script
abbrev pub most_changes : ℕ
most_changes = 10000
