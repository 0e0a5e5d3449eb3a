-- The gates that are held, as pairs.
use Rattle.std.specs.Prelude.{ℕ, Bool, Option, Some, None, List, [], ◌∷◌}

-- a node with its bit, if it is held
abbrev pub held_at_node : ℕ → Option Bool → List (ℕ × Bool)
held_at_node node None = []
held_at_node node (Some bit) = (node, bit) ∷ []
