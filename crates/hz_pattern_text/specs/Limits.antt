-- The limit of patterns.
use Rattle.std.specs.Prelude.{ℕ}

-- the most patterns of a text
abbrev pub most_patterns : ℕ
most_patterns = 65536
