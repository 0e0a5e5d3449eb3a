-- The limits of scripts with assumptions of time. That of changes is the one of scripts.
use Rattle.std.specs.Prelude.{ℕ}

-- the most orders
abbrev pub most_orders : ℕ
most_orders = 1000

-- the most wires without delay
abbrev pub most_ideals : ℕ
most_ideals = 256

-- the most starts
abbrev pub most_starts : ℕ
most_starts = 256

-- the greatest number of a change in an order
abbrev pub most_nth : ℕ
most_nth = 1000
